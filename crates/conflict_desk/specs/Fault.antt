-- The codes of the faults.
use Rattle.std.specs.Prelude.{ℕ, List, codes}
use Rattle.conflict_desk.specs.declared.fault.DeskFault.{DeskFault}
use Rattle.conflict_desk.specs.declared.fault.DeskFault.TheVariants.{NoClient, NotFront, NoMemory}

abbrev pub desk_fault_code : DeskFault → List ℕ
desk_fault_code NoClient = codes "C1"
desk_fault_code (NotFront front) = codes "C2"
desk_fault_code NoMemory = codes "C3"
