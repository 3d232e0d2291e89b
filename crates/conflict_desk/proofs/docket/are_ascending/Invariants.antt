use Rattle.conflict_desk.proofs.Dockets.{AscendTo}
use Rattle.conflict_desk.proofs.docket.are_ascending.Given as goal

abbrev pub invariant-loop-k : goal.invariant-loop-k
invariant-loop-k l = AscendTo l.cases l.k
