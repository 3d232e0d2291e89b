-- What an upload gives next.
use Rattle.std.specs.Prelude.{◌≢◌, ℕ, List, [], ◌∷◌, Option, Some, None}
use Rattle.page_tree.specs.declared.fault.PageFault.TheVariants as page_fault
use Rattle.xpath_child.specs.declared.fault.PathFaultKind.TheVariants as path_fault
use Rattle.upload_reader.specs.Stream.{Costed}
use Rattle.upload_reader.specs.declared.ending.Ending.{Ending}
use Rattle.upload_reader.specs.declared.ending.Ending.TheVariants as ending
use Rattle.upload_reader.specs.declared.lane_fault.LaneEnd.{LaneEnd}
use Rattle.upload_reader.specs.declared.lane_fault.LaneEnd.TheVariants.{Fault}
use Rattle.upload_reader.specs.declared.lane_fault.LaneFault.TheVariants.{ReadFailed, BadPage, BadTarget, BadSession}
use Rattle.upload_reader.specs.declared.message.Message.{Message}
use Rattle.upload_reader.specs.declared.next.Next.{Next}
use Rattle.upload_reader.specs.declared.next.Next.TheVariants.{Got, Over, GaveUp}
use Rattle.upload_reader.specs.declared.session_fault.SessionFault.TheVariants as session_fault

abbrev pub given_by : Next → List Costed
given_by (Got message cost) = (message, cost) ∷ []
given_by other = []

abbrev pub ending_by : Next → Option Ending
ending_by (Got message cost) = None
ending_by (Over end) = Some (ending.Over end)
ending_by GaveUp = Some ending.GaveUp

abbrev pub next_of : Ending → Next
next_of (ending.Over end) = Over end
next_of ending.GaveUp = GaveUp

abbrev pub IfGot : Next → (Message → ℕ → Type 0) → Type 0
IfGot (Got message cost) P = P message cost
IfGot other P = Unit {0}

abbrev pub IfOver : Next → (LaneEnd → Type 0) → Type 0
IfOver (Over end) P = P end
IfOver other P = Unit {0}

-- how many reads failed, by how the upload ended: one where the end is that
abbrev pub failed_reads : Option Ending → ℕ
failed_reads (Some (ending.Over (Fault line ReadFailed))) = 1
failed_reads other = 0

-- How a lane can end by its input alone: its fault, where it has one, is not that memory was refused.
abbrev pub IsReal : LaneEnd → Type 0
IsReal (Fault line (BadPage fault)) = fault ≢ page_fault.NoMemory
IsReal (Fault line (BadTarget fault)) = fault.kind ≢ path_fault.NoMemory
IsReal (Fault line (BadSession fault)) = fault ≢ session_fault.NoMemory
IsReal end = Unit {0}
