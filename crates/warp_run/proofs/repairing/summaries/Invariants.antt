use Rattle.std.proofs.Common.{◌≡◌, ◌++◌, map}
use Rattle.warp_run.specs.Repair.{summary_of}
use Rattle.warp_run.proofs.repairing.summaries.Given as goal

abbrev pub invariant-loop-client : goal.invariant-loop-client
invariant-loop-client g l = l.all.items ++ map summary_of l.client-iterator ≡ map summary_of l.initial.client-iterator
