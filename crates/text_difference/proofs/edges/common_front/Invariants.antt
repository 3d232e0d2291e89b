use Rattle.text_difference.proofs.Alike.{IsFar}
use Rattle.text_difference.proofs.edges.common_front.Given as goal

abbrev pub invariant-loop-place : goal.invariant-loop-place
invariant-loop-place l = IsFar l.old l.new l.place
