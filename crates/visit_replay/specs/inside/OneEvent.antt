-- One event of a visit that is replayed: the numbers of its nodes, or why it has none.
use Rattle.std.specs.Prelude.{ℕ, ◌≡◌, ◌<◌, List, Option, Some, None, IfSome, option_map, Result, Ok, Err}
use Rattle.page_tree.specs.Tree.{Tree}
use Rattle.page_tree.specs.Control.{control_at}
use Rattle.page_tree.specs.Limits.{nodes}
use Rattle.page_tree.specs.Number.{place_numbered}
use Rattle.page_tree.specs.declared.control.Control.{Control}
use Rattle.page_tree.specs.declared.control.Control.TheVariants as control
use Rattle.upload_reader.specs.declared.message.Event.{Event}
use Rattle.upload_reader.specs.declared.message.Event.TheVariants.{Click}
use Rattle.visit_replay.specs.Aim.{Aim, acts, nowhere, lost, place_of_aim, aim_of}
use Rattle.visit_replay.specs.Conflict.{conflict}
use Rattle.visit_replay.specs.declared.aims.Aiming.{Aiming}
use Rattle.visit_replay.specs.declared.aims.Aiming.TheVariants as aiming
use Rattle.visit_replay.specs.declared.outcome.ConflictKind.{ConflictKind}
use Rattle.visit_replay.specs.declared.conflicts.Located.{Located}
use Rattle.visit_replay.specs.declared.conflicts.Located.TheVariants.{Bad, Idle, At}

-- the place of a button's number, where there is one
abbrev pub places_numbered : Option ℕ → Tree → Option (List ℕ)
places_numbered button new = option_map (λ n. place_numbered n new) button

-- what was found, by its place
abbrev pub placed : Tree → Result ℕ ConflictKind → Result (List ℕ) ConflictKind
placed new (Ok number) = Ok (place_numbered number new)
placed new (Err kind) = Err kind

-- the number is that of the node that the event acts on
abbrev pub IsNodeOf : Aim → Tree → ℕ → Type 0
IsNodeOf aim new number = (number < nodes new) × (place_of_aim aim ≡ Some (place_numbered number new))

abbrev pub IsWithin : Option ℕ → Tree → Type 0
IsWithin button new = IfSome button (λ n. n < nodes new)

-- the numbers of its target and of the pressed button, or that it needs none, or why there are none
abbrev pub AimsAt : Tree → Aim → Located → Type 0
AimsAt new aim (Bad kind) = aim ≡ lost kind
AimsAt new aim Idle = aim ≡ nowhere
AimsAt new aim (At target button) = (target < nodes new) × IsWithin button new
    × (aim ≡ acts (place_numbered target new) (places_numbered button new))

-- the same, or why it can't be replayed
abbrev pub Locates : (Event → Aim) → Tree → Tree → Event → Located → Type 0
Locates aim old new event (Bad kind) = conflict aim old new event ≡ Some kind
Locates aim old new event Idle = (conflict aim old new event ≡ None) × (aim event ≡ nowhere)
Locates aim old new event (At target button) =
    (conflict aim old new event ≡ None) × AimsAt new (aim event) (At target button)

-- ---- how events find their places

-- the fresh names, where they find them by their elements
abbrev pub names_aimed : Aiming → Option (List (List ℕ))
names_aimed aiming.ByPath = None
names_aimed (aiming.ByElement beside) = Some beside.fresh

-- it is between these two pages
abbrev pub IsBetween : Aiming → Tree → Tree → Type 0
IsBetween aiming.ByPath old new = Unit {0}
IsBetween (aiming.ByElement beside) old new = (beside.old ≡ old) × (beside.new ≡ new)

abbrev pub aimed : Aiming → Tree → Tree → Event → Aim
aimed aiming old new event = aim_of (names_aimed aiming) old new event

-- what a click is on, as far as it is looked at
abbrev pub control_clicked : Tree → Event → List ℕ → Control
control_clicked old (Click at target req) place = control_at place old
control_clicked old other place = control.Other
