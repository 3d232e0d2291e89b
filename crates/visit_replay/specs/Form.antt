-- What a form sends (HTML 4.01, section 17.13; where it says nothing, or another thing, these are this project's own
-- rules: `on` for an absent `value`, an empty text for that of a button, no pair of an empty name, nested forms' nodes
-- too, the visit's address for no action, no query or fragment of the action's own under Get).
use Rattle.std.specs.Prelude.{ℕ, List, [], ◌∷◌, ◌++◌, Bool, false, ◌||◌, ◌==◌, if◌then◌else◌, Option, Some, None, unwrap_or, option_map, option_and_then, codes}
use Rattle.std.specs.List.{filter_map, before_first}
use Rattle.std.specs.Option.{option_map_or}
use Rattle.std.specs.Str.{str_eq_ignore_ascii_case}
use Rattle.form_urlencoded.specs.Form.{extend_pairs}
use Rattle.page_tree.specs.Tree.{Tree}
use Rattle.page_tree.specs.Look.{attribute_at}
use Rattle.page_tree.specs.Control.{control_at, start_checked_at}
use Rattle.page_tree.specs.Under.{places_under}
use Rattle.page_tree.specs.declared.control.Control.{Control}
use Rattle.page_tree.specs.declared.control.Control.TheVariants as control
use Rattle.upload_reader.specs.declared.message.Event.{Event}
use Rattle.visit_replay.specs.Aim.{Aim}
use Rattle.visit_replay.specs.Conflict.{is_disabled}
use Rattle.visit_replay.specs.Field.{is_there, value_before, is_on_before}
use Rattle.visit_replay.specs.declared.requests.Method.TheVariants.{Get, Post}
use Rattle.visit_replay.specs.declared.requests.Request.{Request}

-- an absent text and an empty one are the same
abbrev pub unless_empty : Option (List ℕ) → Option (List ℕ)
unless_empty (Some (c ∷ text)) = Some (c ∷ text)
unless_empty other = None

-- ---- the pairs (section 17.13.2: successful controls)

abbrev pub Pair : Type 0
Pair = List ℕ × List ℕ

-- a control that is disabled, or has no name, sends nothing
abbrev pub sent_name : List ℕ → Tree → Option (List ℕ)
sent_name place new = if is_disabled place new then None else unless_empty (attribute_at place (codes "name") new)

abbrev pub value_or : List ℕ → List ℕ → Tree → List ℕ
value_or default place new = unwrap_or (attribute_at place (codes "value") new) default

-- what the control there sends that holds that text, is on or off, and was pressed or not
unfoldable pub sent_value : Control → List ℕ → Bool → Bool → Tree → List ℕ → Option (List ℕ)
sent_value control.Text text on pressed new place = Some text
sent_value control.Check text on pressed new place = if on then Some (value_or (codes "on") place new) else None
sent_value control.Radio text on pressed new place =
    if start_checked_at place new then Some (value_or (codes "on") place new) else None
sent_value control.Submit text on pressed new place = if pressed then Some (value_or [] place new) else None
sent_value _ text on pressed new place = None

-- the same under its name
abbrev pub sent_pair : List ℕ → Bool → Bool → Tree → List ℕ → Option Pair
sent_pair text on pressed new place =
    let value = sent_value (control_at place new) text on pressed new place in
    option_and_then (λ name. option_map (λ v. (name, v)) value) (sent_name place new)

-- of all nodes under the form, in document order, by what each field holds and which checkboxes are on, where `by` is
-- the place of the pressed button
abbrev pub pairs_held : (List ℕ → List ℕ) → (List ℕ → Bool) → Tree → Option (List ℕ) → List ℕ → List Pair
pairs_held text on new by form = filter_map
    (λ place. sent_pair (text place) (on place) (is_there place by) new place) (places_under form new)

-- the same behind those events
abbrev pub pairs_of : (Event → Aim) → Tree → List Event → Option (List ℕ) → List ℕ → List Pair
pairs_of aim new before by form = pairs_held (value_before aim new before) (is_on_before aim new before) new by form

-- the pairs as `application/x-www-form-urlencoded` (section 17.13.4)
abbrev pub encoded_pairs : (Event → Aim) → Tree → List Event → Option (List ℕ) → List ℕ → List ℕ
encoded_pairs aim new before by form = extend_pairs [] (pairs_of aim new before by form)

-- ---- method and address (section 17.13.3)

-- an address up to its first `?` or `#`
abbrev pub bare : List ℕ → List ℕ
bare address = before_first (λ c. c == 63 || c == 35) address

abbrev pub is_post : List ℕ → Tree → Bool
is_post form new =
    option_map_or (λ method. str_eq_ignore_ascii_case method (codes "post")) (attribute_at form (codes "method") new)
    false

-- where the form sends to: its action, or the visit's address where that is absent or empty
abbrev pub action_of : List ℕ → List ℕ → Tree → List ℕ
action_of address form new = unwrap_or (unless_empty (attribute_at form (codes "action") new)) address

-- with the pairs: under Get they stand in the address, in the place of the action's own query and fragment
abbrev pub sent_to : Bool → ℕ → List ℕ → List ℕ → Request
sent_to post number action pairs =
    if post then record { number = number; method = Post; address = action; pairs = pairs }
    else record { number = number; method = Get; address = bare action ++ codes "?" ++ pairs; pairs = pairs }

abbrev pub form_request : (Event → Aim) → List ℕ → Tree → List Event → Option (List ℕ) → List ℕ → ℕ → Request
form_request aim address new before by form number =
    sent_to (is_post form new) number (action_of address form new) (encoded_pairs aim new before by form)
