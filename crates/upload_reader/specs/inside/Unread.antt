-- What the readers of lines answer, want of memory left aside.
use Rattle.std.specs.Prelude.{◌≡◌, Result, Ok, Err}
use Rattle.upload_reader.specs.declared.lane_fault.LaneFault.{LaneFault}
use Rattle.upload_reader.specs.declared.unread.Unread.{Unread}
use Rattle.upload_reader.specs.declared.unread.Unread.TheVariants.{Fault, NoMemory}

abbrev pub ReadsAs : {X Y : Type 0} → (X → Y) → Result X Unread → Result Y LaneFault → Type 0
ReadsAs view (Ok x) said = said ≡ Ok (view x)
ReadsAs view (Err (Fault kind)) said = said ≡ Err kind
ReadsAs view (Err NoMemory) said = Unit {0}

abbrev pub IsReadAs : {A : Type 0} → Result A Unread → Result A LaneFault → Type 0
IsReadAs result said = ReadsAs (λ x. x) result said
