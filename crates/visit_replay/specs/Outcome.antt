-- What replaying a visit gives: the first case that holds. Events are numbered from 1, the load is event 0.
use Rattle.std.specs.Prelude.{ℕ, ◌+◌, List, [], length, take, Bool, if◌then◌else◌, Option, Some, None, is_some, option_map, option_and_then, slice_get}
use Rattle.std.specs.List.{find, list_any, range_with_len}
use Rattle.std.specs.Option.{option_map_or}
use Rattle.std.specs.Str.{bytes_eq}
use Rattle.page_tree.specs.Tree.{Tree}
use Rattle.upload_reader.specs.declared.message.Event.{Event}
use Rattle.client_log.specs.declared.visit.Visit.{Visit}
use Rattle.visit_replay.specs.Aim.{Aim, aim_of, has_strayed}
use Rattle.visit_replay.specs.Conflict.{conflict}
use Rattle.visit_replay.specs.Form.{bare}
use Rattle.visit_replay.specs.RepairedSite.{RepairedSite}
use Rattle.visit_replay.specs.Requests.{requests_before}
use Rattle.visit_replay.specs.declared.outcome.ConflictKind.{ConflictKind}
use Rattle.visit_replay.specs.declared.outcome.ConflictKind.TheVariants.{NoPage, LogCut, Ui, Changed}
use Rattle.visit_replay.specs.declared.outcome.Outcome.{Outcome}
use Rattle.visit_replay.specs.declared.outcome.Outcome.TheVariants.{Untouched, Done, Conflict}

-- ---- which visits are replayed

abbrev pub is_listed : List (List ℕ) → List ℕ → Bool
is_listed addresses address = list_any (bytes_eq address) addresses

-- the patch lists the address up to its first `?` or `#`
abbrev pub is_affected : List (List ℕ) → List ℕ → Bool
is_affected patch address = is_listed patch (bare address)

-- ---- the first event that can't be replayed

-- why the event with k events before it can't: K11 too where a field that was touched strayed
abbrev pub conflict_of : Option (List (List ℕ)) → Tree → Tree → List Event → ℕ → Option ConflictKind
conflict_of same old new events k = option_and_then (λ event. if has_strayed same old new (take k events) event
    then Some Changed else conflict (aim_of same old new) old new event) (slice_get events k)

-- how many events stand before it, and why
abbrev pub first_conflict : Option (List (List ℕ)) → Tree → Tree → List Event → Option (ℕ × ConflictKind)
first_conflict same old new events = let reason = conflict_of same old new events in
    option_and_then (λ k. option_map (λ kind. (k, kind)) (reason k))
    (find (λ k. is_some (reason k)) (range_with_len 0 (length events)))

-- ---- the outcome

-- where no event is bad: the visit was kept in part (K8), or the site signals a conflict (K9), or all is done
abbrev pub at_end : (Event → Aim) → Visit → Tree → Bool → Outcome
at_end aim visit new signalled =
    let n = length visit.events in let requests = requests_before aim visit.address new visit.events n in
    if visit.cut then Conflict requests (n + 1) LogCut else
    (if signalled then Conflict requests (n + 1) Ui else Done requests)

-- where the first bad event is that one
abbrev pub at_event : (Event → Aim) → Visit → Tree → ℕ × ConflictKind → Outcome
at_event aim visit new bad = Conflict (requests_before aim visit.address new visit.events bad.0) (bad.0 + 1) bad.1

-- on the page that the site has there now, if it has one (K1)
abbrev pub on_page : Option (List (List ℕ)) → Visit → (Tree → Bool) → Option Tree → Outcome
on_page same visit signalled None = Conflict [] 0 NoPage
on_page same visit signalled (Some new) = let aim = aim_of same visit.page new in
    option_map_or (at_event aim visit new) (first_conflict same visit.page new visit.events)
    (at_end aim visit new (signalled new))

-- where the patch doesn't list the visit's address it is left alone
abbrev pub outcome : RepairedSite → Visit → Outcome
outcome site visit =
    if is_affected site.patch visit.address
    then on_page site.same visit (site.signals visit.address visit.page) (site.page_of visit.address) else Untouched
