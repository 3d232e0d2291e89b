-- What a field holds before an event: the value of the last input into it, and a checkbox's start state turned once for
-- each click on it. A field is a place of the page, however the paths to it are spelled (HTML 4.01, section 17.13.2:
-- current value).
use Rattle.std.specs.Prelude.{ℕ, List, [], Bool, false, not, if◌then◌else◌, Option, unwrap_or, fold}
use Rattle.std.specs.Option.{option_map_or}
use Rattle.std.specs.Str.{bytes_eq}
use Rattle.page_tree.specs.Tree.{Tree}
use Rattle.page_tree.specs.Control.{start_text_at, start_checked_at}
use Rattle.upload_reader.specs.declared.message.Event.{Event}
use Rattle.upload_reader.specs.declared.message.Event.TheVariants.{Input, Click}
use Rattle.visit_replay.specs.Aim.{Aim, place_of_aim}

-- it was found, and it is that place
abbrev pub is_there : List ℕ → Option (List ℕ) → Bool
is_there place found = option_map_or (λ other. bytes_eq other place) found false

-- ---- texts

-- what an event writes, if it is an input
abbrev pub text_by : Event → List ℕ → List ℕ
text_by (Input at target value) text = value
text_by other text = text

-- what the field there holds after an event, from what it held before: an input into it writes its value
abbrev pub text_after : (Event → Aim) → List ℕ → List ℕ → Event → List ℕ
text_after aim place text event = if is_there place (place_of_aim (aim event)) then text_by event text else text

-- the value of the last input into it, or the start text where there was none, or else an empty text
abbrev pub value_before : (Event → Aim) → Tree → List Event → List ℕ → List ℕ
value_before aim new before place = fold (text_after aim place) (unwrap_or (start_text_at place new) []) before

-- ---- checkboxes

abbrev pub is_on_by : Event → Bool → Bool
is_on_by (Click at target req) on = not on
is_on_by other on = on

-- a click on it turns it
abbrev pub is_on_after : (Event → Aim) → List ℕ → Bool → Event → Bool
is_on_after aim place on event = if is_there place (place_of_aim (aim event)) then is_on_by event on else on

-- the start state, turned once for each click on it
abbrev pub is_on_before : (Event → Aim) → Tree → List Event → List ℕ → Bool
is_on_before aim new before place = fold (is_on_after aim place) (start_checked_at place new) before
