-- What reading a JSON value or a tree says of its faults, and what reading a value adds to a table.
use Rattle.std.specs.Prelude.{◌≡◌, ◌≢◌, ℕ, ◌≤◌, List, ◌++◌, length, Bool, true, false, Option, Some, Result, Ok, Err}
use Rattle.std.specs.Option.{option_map_or}
use Rattle.serde_json.specs.Data.{Data, Items}
use Rattle.page_tree.specs.Tree.{Tree, Trees}
use Rattle.page_tree.specs.Limits.{max_nodes}
use Rattle.page_tree.specs.Value.{StandsFor, AllStandFor}
use Rattle.page_tree.specs.Fault.{first_fault}
use Rattle.page_tree.specs.inside.Table.{Line, lines_of, lines_from}
use Rattle.page_tree.specs.declared.rows.Spot.{Spot}
use Rattle.page_tree.specs.declared.fault.PageFault.{PageFault}
use Rattle.page_tree.specs.declared.fault.PageFault.TheVariants.{NoMemory}

-- Of nodes with these faults, behind so many others: either none has one, and so many nodes stand before a later one;
-- or the first fault was said.
abbrev pub Judges : {X : Type 0} → (X → ℕ) → Result X PageFault → ℕ → List (Option PageFault) → Type 0
Judges count (Ok x) before faults =
    (later : List (Option PageFault)) → first_fault before (faults ++ later) ≡ first_fault (count x) later
Judges count (Err fault) before faults =
    fault ≢ NoMemory → (later : List (Option PageFault)) → first_fault before (faults ++ later) ≡ Some fault

-- a part of an element was read, which passes a test; or its fault was said
abbrev pub ReadsPart : {X Y : Type 0} → (X → Y) → (Y → Bool) → PageFault → Option Y → Result X PageFault → Type 0
ReadsPart view test fault given (Ok x) = (given ≡ Some (view x)) × (test (view x) ≡ true)
ReadsPart view test fault given (Err e) = e ≢ NoMemory → (e ≡ fault) × (option_map_or test given false ≡ false)

-- the node that a value stands for was added, which stands there
pub record Adds (d : Data) (spot : Spot) (old new : List Line) : Type 0 where
  pub added : Tree
  pub stands : StandsFor d added
  pub lines : new ≡ old ++ lines_of spot (length old) added
  pub few : length new ≤ max_nodes

-- those that some values stand for were added, the children of that parent
abbrev pub AddsAll : Items → ℕ → List Line → List Line → Type 0
AddsAll ds parent old new = (ts : Trees) × AllStandFor ds ts × (new ≡ old ++ lines_from parent 0 (length old) ts)
    × (length new ≤ max_nodes)
