-- The codes of the faults.
use Rattle.std.specs.Prelude.{ℕ, List, codes}
use Rattle.replay_workers.specs.declared.fault.PoolFault.{PoolFault}
use Rattle.replay_workers.specs.declared.fault.PoolFault.TheVariants.{BadWorkers, NoMemory}

abbrev pub pool_fault_code : PoolFault → List ℕ
pool_fault_code BadWorkers = codes "F1"
pool_fault_code NoMemory = codes "F2"
