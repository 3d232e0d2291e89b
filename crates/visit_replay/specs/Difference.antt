-- What a visit asked for on the page that it was made on, where that differs from what its replay asks for: this
-- project's own rule. It is told where events find their places by their elements, and the values of fresh names don't
-- count.
use Rattle.std.specs.Prelude.{ℕ, ◌-◌, List, [], ◌∷◌, map, take, length, Bool, ◌&&◌, ◌++◌, ◌==◌, if◌then◌else◌, Option, Some, None, option_and_then, slice_get, codes}
use Rattle.std.specs.List.{find, filter_map, range_with_len}
use Rattle.std.specs.Option.{option_map_or}
use Rattle.std.specs.Str.{bytes_eq}
use Rattle.page_tree.specs.Tree.{Tree}
use Rattle.page_looks.specs.Counterpart.{same_place}
use Rattle.page_looks.specs.Sending.{without_fresh}
use Rattle.xpath_child.specs.Targets.{target_in, only_place}
use Rattle.upload_reader.specs.declared.message.Event.{Event}
use Rattle.upload_reader.specs.declared.message.Event.TheVariants.{Submit}
use Rattle.client_log.specs.declared.visit.Visit.{Visit}
use Rattle.visit_replay.specs.Aim.{Aim, acts, nowhere, place_of_aim, button_of_aim, goes_by, by_path, by_element, form_around}
use Rattle.visit_replay.specs.Requests.{request_at, nth_request}
use Rattle.visit_replay.specs.declared.difference.Contrast.{Contrast}
use Rattle.visit_replay.specs.declared.difference.Contrast.TheVariants.{Done, Changed}
use Rattle.visit_replay.specs.declared.outcome.ConflictKind.TheVariants as kinds
use Rattle.visit_replay.specs.declared.outcome.Outcome.{Outcome}
use Rattle.visit_replay.specs.declared.outcome.Outcome.TheVariants as outcome
use Rattle.visit_replay.specs.declared.requests.Request.{Request}

-- ---- of a visit that is done

-- what the event with k events before it asked for, behind all these, whether they can be replayed or not
abbrev pub was_asked : Visit → ℕ → Option Request
was_asked visit k = nth_request (by_path visit.page) visit.address visit.page visit.events k

-- the first of these with that number
abbrev pub was_numbered : Visit → ℕ → Option Request
was_numbered visit number =
    find (λ r. r.number == number) (filter_map (was_asked visit) (range_with_len 0 (length visit.events)))

-- they go to one address and send the same, but for the values of fresh names
abbrev pub are_alike : List (List ℕ) → Request → Request → Bool
are_alike fresh was is = bytes_eq (without_fresh fresh was.address) (without_fresh fresh is.address)
    && bytes_eq (without_fresh fresh (codes "?" ++ was.pairs)) (without_fresh fresh (codes "?" ++ is.pairs))

-- what a request was that is another now
abbrev pub was_other : List (List ℕ) → Visit → Request → Option Request
was_other fresh visit is = option_and_then (λ was. if are_alike fresh was is then None else Some was)
    (was_numbered visit is.number)

-- ---- of one that stops since an element has changed (K11)

abbrev pub acts_in : Tree → Event → List ℕ → Aim
acts_in new (Submit at target (Some by) req) q = option_map_or (λ form. acts form (Some q)) (form_around new q) nowhere
acts_in new other q = acts q None

-- where the event acts, if what has changed there is passed over
abbrev pub passing_over : Tree → Tree → Event → Aim
passing_over old new event = option_map_or (acts_in new event)
    (option_and_then (same_place old new) (only_place (target_in (goes_by event) old))) nowhere

-- what the event with k events before it asks for there
abbrev pub asks_now : List (List ℕ) → Visit → Tree → ℕ → Option Request
asks_now fresh visit new k = option_and_then (λ event. let aim = passing_over visit.page new event in
    option_and_then (request_at (by_element fresh visit.page new) visit.address new (take k visit.events) event
    (button_of_aim aim)) (place_of_aim aim)) (slice_get visit.events k)

-- ---- of any

abbrev pub difference_by : List (List ℕ) → Visit → Option Tree → Outcome → Option Contrast
difference_by fresh visit new (outcome.Done requests) = Some (Done (map (was_other fresh visit) requests))
difference_by fresh visit new (outcome.Conflict requests at kinds.Changed) =
    Some (Changed (was_asked visit (at - 1)) (option_and_then (λ page. asks_now fresh visit page (at - 1)) new))
difference_by fresh visit new other = None

abbrev pub difference : Option (List (List ℕ)) → Visit → Option Tree → Outcome → Option Contrast
difference same visit new given = option_and_then (λ fresh. difference_by fresh visit new given) same

-- the first of what requests were, where it differs, and the others
abbrev pub first_was : List (Option Request) → Option Request
first_was [] = None
first_was (was ∷ former) = was

abbrev pub others_behind : List (Option Request) → List (Option Request)
others_behind [] = []
others_behind (was ∷ former) = former
