-- What an event that was judged on its own page asked for.
use Rattle.std.proofs.Common.{◌≡◌, ℕ, ◌<◌, true, get_or, length, take, if◌then◌else◌, is_some, Option, Some, None, option_and_then, slice_get, refl, sym, ap, ◌∙◌}
use Rattle.std.specs.Option.{option_map_or}
use Rattle.std.proofs.lemmas.Option.{slice_get-get_or}
use Rattle.upload_reader.specs.declared.message.Event.{Event}
use Rattle.client_log.specs.declared.visit.Visit.{Visit}
use Rattle.visit_replay.specs.declared.outcome.ConflictKind.{ConflictKind}
use Rattle.page_tree.specs.Tree.{Tree}
use Rattle.xpath_child.specs.Targets.{target_in}
use Rattle.xpath_child.specs.declared.path.Target.{Target}
use Rattle.xpath_child.specs.declared.path.Target.TheVariants.{Missing, One, Several}
use Rattle.visit_replay.specs.declared.outcome.ConflictKind.TheVariants.{NoTarget, ManyTargets}
use Rattle.visit_replay.specs.Aim.{acts, on_target, path_of, by_of, button_by_path, by_path, place_of_aim}
use Rattle.visit_replay.specs.Conflict.{conflict, conflict_at, conflict_by, is_bad}
use Rattle.visit_replay.specs.Moved.{own_request}
use Rattle.visit_replay.specs.Requests.{event_request}

pub stands_at : (visit : Visit) (k : ℕ) (event : Event) → k < length visit.events → event ≡ get_or visit.events k event → slice_get visit.events k ≡ Some event
stands_at visit k event below is = slice_get-get_or visit.events k event below ∙ ap Some (sym is)

pub own_is : (visit : Visit) (k : ℕ) (event : Event) (found : Option ConflictKind) → slice_get visit.events k ≡ Some event → conflict (by_path visit.page) visit.page visit.page event ≡ found
    → own_request visit k ≡ (if is_some found then None else event_request (by_path visit.page) visit.address visit.page (take k visit.events) event)
own_is visit k event found at judged =
    ap (λ e. if option_map_or (is_bad (by_path visit.page) visit.page visit.page) e true then None else option_and_then (event_request (by_path visit.page) visit.address visit.page (take k visit.events)) e) at
    ∙ ap (λ c. if is_some c then None else event_request (by_path visit.page) visit.address visit.page (take k visit.events) event) judged

-- an event whose path leads to no node alone asks for nothing
lost_there : (page : Tree) (event : Event) → place_of_aim (by_path page event) ≡ None → (kind : ConflictKind) × (conflict (by_path page) page page event ≡ Some kind)
lost_there page event = go (target_in (path_of event) page)
  where
    go : (t : Target) → place_of_aim (on_target t (λ place. acts place (button_by_path page (by_of event)))) ≡ None
        → (kind : ConflictKind) × (conflict_by (on_target t (λ place. acts place (button_by_path page (by_of event)))) (conflict_at page page event) ≡ Some kind)
    go Missing none = (NoTarget, refl)
    go (One place) none = cc
    go Several none = (ManyTargets, refl)

pub none_led : (visit : Visit) (k : ℕ) (event : Event) → slice_get visit.events k ≡ Some event → place_of_aim (by_path visit.page event) ≡ None → own_request visit k ≡ None
none_led visit k event at none = let lost = lost_there visit.page event none in own_is visit k event (Some lost.0) at lost.1
