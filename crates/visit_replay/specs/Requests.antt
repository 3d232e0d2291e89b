-- The requests of a visit that is replayed on a page.
use Rattle.std.specs.Prelude.{ℕ, List, [], ◌∷◌, take, ◌==◌, if◌then◌else◌, Option, Some, None, option_map, option_and_then, slice_get, codes}
use Rattle.std.specs.List.{filter_map, range_with_len}
use Rattle.page_tree.specs.Tree.{Tree}
use Rattle.page_tree.specs.Look.{attribute_at}
use Rattle.upload_reader.specs.declared.message.Event.{Event}
use Rattle.upload_reader.specs.declared.message.Event.TheVariants.{Input, Click, Submit}
use Rattle.visit_replay.specs.Aim.{Aim, place_of_aim, button_of_aim}
use Rattle.visit_replay.specs.Form.{form_request}
use Rattle.visit_replay.specs.declared.requests.Method.TheVariants.{Load, Get}
use Rattle.visit_replay.specs.declared.requests.Request.{Request}

abbrev pub load_request : List ℕ → Request
load_request address = record { number = 0; method = Load; address = address; pairs = [] }

-- of the link at that place, with its address as it is written
abbrev pub link_request : ℕ → List ℕ → Tree → Option Request
link_request number place new =
    option_map (λ address. record { number = number; method = Get; address = address; pairs = [] })
    (attribute_at place (codes "href") new)

-- of an event at that place, with that button, behind those events: of a click that of its link, of a submit that of
-- its form; with 0 for its number an event makes none
abbrev pub request_at : (Event → Aim) → List ℕ → Tree → List Event → Event → Option (List ℕ) → List ℕ → Option Request
request_at aim address new before (Input at target value) button place = None
request_at aim address new before (Click at target req) button place =
    if req == 0 then None else link_request req place new
request_at aim address new before (Submit at target by req) button place =
    if req == 0 then None else Some (form_request aim address new before button place req)

abbrev pub event_request : (Event → Aim) → List ℕ → Tree → List Event → Event → Option Request
event_request aim address new before event =
    option_and_then (request_at aim address new before event (button_of_aim (aim event))) (place_of_aim (aim event))

-- of the event with k events before it
abbrev pub nth_request : (Event → Aim) → List ℕ → Tree → List Event → ℕ → Option Request
nth_request aim address new events k =
    option_and_then (event_request aim address new (take k events)) (slice_get events k)

-- of the load and of the first n events, in order
abbrev pub requests_before : (Event → Aim) → List ℕ → Tree → List Event → ℕ → List Request
requests_before aim address new events n =
    load_request address ∷ filter_map (nth_request aim address new events) (range_with_len 0 n)
