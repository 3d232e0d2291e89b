-- The codes of the faults of a round of lanes.
use Rattle.std.specs.Prelude.{ℕ, List, codes}
use Rattle.lanes_in_turn.specs.declared.fault.GatherFault.{GatherFault}
use Rattle.lanes_in_turn.specs.declared.fault.GatherFault.TheVariants.{BadLanes, DuplicateClient, NoMemory}

abbrev pub gather_fault_code : GatherFault → List ℕ
gather_fault_code BadLanes = codes "G1"
gather_fault_code DuplicateClient = codes "G2"
gather_fault_code NoMemory = codes "G3"
