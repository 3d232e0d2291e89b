-- The fields that the code keeps while it goes through the events of a visit, by the numbers of their nodes: what they
-- hold now, and what they stand for.
use Rattle.std.specs.Prelude.{ℕ, ◌≡◌, ◌<◌, ◌≤◌, length, List, [], ◌∷◌, ◌++◌, Bool, false, not, if◌then◌else◌, get_or, None, unwrap_or, option_map}
use Rattle.page_tree.specs.Tree.{Tree}
use Rattle.page_tree.specs.Limits.{nodes}
use Rattle.page_tree.specs.Control.{control_at, start_text_at, start_checked_at}
use Rattle.page_tree.specs.Number.{place_numbered}
use Rattle.page_tree.specs.declared.control.Control.TheVariants as control
use Rattle.upload_reader.specs.declared.message.Event.{Event}
use Rattle.visit_replay.specs.Aim.{Aim}
use Rattle.visit_replay.specs.Field.{value_before, is_on_before}
use Rattle.visit_replay.specs.declared.fields.Fields.{Fields}

-- what was written into the field with that number, or its start text
abbrev pub text_now : Fields → Tree → ℕ → List ℕ
text_now fields new number = unwrap_or (option_map (λ text. text.now) (get_or fields.texts.items number None))
    (unwrap_or (start_text_at (place_numbered number new) new) [])

-- whether the checkbox with that number isn't as it started
abbrev pub turned_now : Fields → ℕ → Bool
turned_now fields number = get_or fields.turned.items number false

abbrev pub is_on_now : Fields → Tree → ℕ → Bool
is_on_now fields new number =
    let start = start_checked_at (place_numbered number new) new in
    if turned_now fields number then not start else start

-- there is room for the nodes of that page
pub record HasRoom (fields : Fields) (new : Tree) : Type 0 where
  pub texts : nodes new ≤ length fields.texts.items
  pub turned : nodes new ≤ length fields.turned.items

-- each node holds that text, and each checkbox is on or off as that says, by its place
pub record Hold (fields : Fields) (new : Tree) (text : List ℕ → List ℕ) (on : List ℕ → Bool) : Type 0 where
  pub room : HasRoom fields new
  pub texts : (number : ℕ) → number < nodes new → text_now fields new number ≡ text (place_numbered number new)
  pub checks : (number : ℕ) → number < nodes new → control_at (place_numbered number new) new ≡ control.Check
      → is_on_now fields new number ≡ on (place_numbered number new)

-- they hold what these events left at each node
abbrev pub Keeps : (Event → Aim) → Fields → Tree → List Event → Type 0
Keeps aim fields new before = Hold fields new (value_before aim new before) (is_on_before aim new before)

-- they take one event more in, whatever went before
abbrev pub TakesIn : (Event → Aim) → Tree → Event → Fields → Fields → Type 0
TakesIn aim new event fields fields' =
    (before : List Event) → Keeps aim fields new before → Keeps aim fields' new (before ++ event ∷ [])
