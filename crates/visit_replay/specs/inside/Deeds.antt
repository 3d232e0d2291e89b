-- What a visit did at the nodes of a page, and what it asks for there by that.
use Rattle.std.specs.Prelude.{ℕ, ◌<◌, ◌==◌, List, [], ◌∷◌, ◌++◌, fold, Bool, not, if◌then◌else◌, Option, Some, None, unwrap_or}
use Rattle.std.specs.List.{cons_option}
use Rattle.std.specs.Str.{bytes_eq}
use Rattle.form_urlencoded.specs.Form.{extend_pairs}
use Rattle.page_tree.specs.Tree.{Tree}
use Rattle.page_tree.specs.Limits.{nodes}
use Rattle.page_tree.specs.Control.{start_text_at, start_checked_at}
use Rattle.page_tree.specs.Number.{place_numbered}
use Rattle.upload_reader.specs.declared.message.Event.{Event}
use Rattle.upload_reader.specs.declared.message.Event.TheVariants.{Input, Click, Submit}
use Rattle.visit_replay.specs.Form.{sent_to, is_post, action_of, pairs_held}
use Rattle.visit_replay.specs.Requests.{load_request, link_request}
use Rattle.visit_replay.specs.inside.Deed.{Deed, Typed, Clicked, Sent}
use Rattle.visit_replay.specs.inside.OneEvent.{IsWithin, places_numbered}
use Rattle.visit_replay.specs.declared.requests.Request.{Request}

-- ---- deeds

-- what an event does at the node with that number, by that button
abbrev pub deed_of : Event → ℕ → Option ℕ → Deed
deed_of (Input at target value) number button = Typed number value
deed_of (Click at target req) number button = Clicked number req
deed_of (Submit at target by req) number button = Sent number button req

-- the number of the request that it made, 0 for none
abbrev pub deed_number : Deed → ℕ
deed_number (Typed field value) = 0
deed_number (Clicked node req) = req
deed_number (Sent form button req) = req

-- the number of the node that it acts on
abbrev pub deed_node : Deed → ℕ
deed_node (Typed field value) = field
deed_node (Clicked node req) = node
deed_node (Sent form button req) = form

-- that of the button that was pressed
abbrev pub deed_button : Deed → Option ℕ
deed_button (Sent form button req) = button
deed_button other = None

-- these are nodes of that page
abbrev pub IsDeedOn : Tree → Deed → Type 0
IsDeedOn page deed = (deed_node deed < nodes page) × IsWithin (deed_button deed) page

-- ---- what the fields of a page hold behind some of them

abbrev pub text_done : Tree → List ℕ → List ℕ → Deed → List ℕ
text_done page place text (Typed field value) = if bytes_eq (place_numbered field page) place then value else text
text_done page place text other = text

abbrev pub text_behind : Tree → List Deed → List ℕ → List ℕ
text_behind page deeds place = fold (text_done page place) (unwrap_or (start_text_at place page) []) deeds

abbrev pub is_on_done : Tree → List ℕ → Bool → Deed → Bool
is_on_done page place on (Clicked node req) = if bytes_eq (place_numbered node page) place then not on else on
is_on_done page place on other = on

abbrev pub is_on_behind : Tree → List Deed → List ℕ → Bool
is_on_behind page deeds place = fold (is_on_done page place) (start_checked_at place page) deeds

-- ---- what it asks for

-- by a form that is sent behind those
abbrev pub form_asked : List ℕ → Tree → List Deed → ℕ → Option ℕ → ℕ → Request
form_asked address page before number button req = let form = place_numbered number page in
    sent_to (is_post form page) req (action_of address form page) (extend_pairs []
    (pairs_held (text_behind page before) (is_on_behind page before) page (places_numbered button page) form))

-- by one behind those
abbrev pub deed_request : List ℕ → Tree → List Deed → Deed → Option Request
deed_request address page before (Typed field value) = None
deed_request address page before (Clicked node req) =
    if req == 0 then None else link_request req (place_numbered node page) page
deed_request address page before (Sent form button req) =
    if req == 0 then None else Some (form_asked address page before form button req)

-- by these behind those, in order
abbrev pub requests_from : List ℕ → Tree → List Deed → List Deed → List Request
requests_from address page before [] = []
requests_from address page before (deed ∷ rest) =
    cons_option (deed_request address page before deed) (requests_from address page (before ++ deed ∷ []) rest)

-- by all of them, and the load
abbrev pub requests_on : List ℕ → Tree → List Deed → List Request
requests_on address page deeds = load_request address ∷ requests_from address page [] deeds
