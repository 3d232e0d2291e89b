-- The codes of the faults.
use Rattle.std.specs.Prelude.{ℕ, List, codes}
use Rattle.lane_queue.specs.declared.fault.QueueFault.{QueueFault}
use Rattle.lane_queue.specs.declared.fault.QueueFault.TheVariants.{BadLanes, BadRoom, NoMemory}

abbrev pub queue_fault_code : QueueFault → List ℕ
queue_fault_code BadLanes = codes "Q1"
queue_fault_code BadRoom = codes "Q2"
queue_fault_code NoMemory = codes "Q3"
