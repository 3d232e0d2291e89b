-- Whether a request of a visit goes elsewhere now: what the visit asked for on the page that it was made on, beside
-- what its replay asks for (this project's own rule). Only the addresses count.
use Rattle.std.specs.Prelude.{ℕ, List, [], Bool, false, true, not, ◌==◌, if◌then◌else◌, Option, Some, None, option_map, option_and_then, slice_get}
use Rattle.std.specs.List.{find, position}
use Rattle.std.specs.Option.{option_map_or}
use Rattle.std.specs.Str.{bytes_eq}
use Rattle.upload_reader.specs.declared.message.Event.{Event}
use Rattle.upload_reader.specs.Session.{request_of}
use Rattle.client_log.specs.declared.visit.Visit.{Visit}
use Rattle.page_looks.specs.Sending.{without_fresh}
use Rattle.visit_replay.specs.Aim.{by_path}
use Rattle.visit_replay.specs.Conflict.{is_bad}
use Rattle.visit_replay.specs.Requests.{nth_request}
use Rattle.visit_replay.specs.declared.requests.Request.{Request}
use Rattle.visit_replay.specs.declared.outcome.Outcome.{Outcome}
use Rattle.visit_replay.specs.declared.outcome.Outcome.TheVariants.{Untouched, Done, Conflict}

-- ---- what the replay asks for

-- those of a conflict are of the events before it
abbrev pub requests_of : Outcome → List Request
requests_of Untouched = []
requests_of (Done requests) = requests
requests_of (Conflict requests at kind) = requests

-- the address of the first request with that number
abbrev pub address_now : Outcome → ℕ → Option (List ℕ)
address_now outcome number =
    option_map (λ request. request.address) (find (λ request. request.number == number) (requests_of outcome))

-- ---- what the visit asked for

-- where the first event stands that made the request of that number
abbrev pub event_numbered : List Event → ℕ → Option ℕ
event_numbered events number = position (λ event. request_of event == number) events

-- of the event with k events before it, behind all these, whether they can be replayed or not; none where it can't
-- itself. On its own page each event finds its place by its path.
abbrev pub own_request : Visit → ℕ → Option Request
own_request visit k = let aim = by_path visit.page in
    if option_map_or (is_bad aim visit.page visit.page) (slice_get visit.events k) true then None
    else nth_request aim visit.address visit.page visit.events k

-- ---- whether they differ

-- what counts of an address: where events find their places by their elements, the values of fresh names don't
abbrev pub what_counts : Option (List (List ℕ)) → List ℕ → List ℕ
what_counts None address = address
what_counts (Some fresh) address = without_fresh fresh address

-- the request that the visit made and the address that its replay asks for
abbrev pub are_apart : Option (List (List ℕ)) → Option Request → Option (List ℕ) → Bool
are_apart same (Some before) (Some now) = not (bytes_eq (what_counts same before.address) (what_counts same now))
are_apart same before now = false

-- K10 of the visit that the request opened. A request that is missing stays where it is, and 0 is the number of no link
-- or form.
abbrev pub is_moved : Option (List (List ℕ)) → Visit → Outcome → ℕ → Bool
is_moved same visit outcome from =
    if from == 0 then false else
    are_apart same (option_and_then (own_request visit) (event_numbered visit.events from)) (address_now outcome from)
