use Rattle.round_robin.proofs.Turns.{IsTurning}
use Rattle.round_robin.proofs.dealt.reverse_each.Given as goal

abbrev pub invariant-loop-k : goal.invariant-loop-k
invariant-loop-k g l = IsTurning l.k l.initial.hands l.hands
