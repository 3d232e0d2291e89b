use Rattle.std.proofs.Common.{◌≡◌, ◌++◌, drop}
use Rattle.warp_run.proofs.settling.copies_of.Given as goal

abbrev pub invariant-loop-decision : goal.invariant-loop-decision
invariant-loop-decision l = l.copies.items ++ drop l.decision-index l.decisions ≡ l.decisions
