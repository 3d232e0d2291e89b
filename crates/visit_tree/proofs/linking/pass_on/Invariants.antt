use Rattle.visit_tree.proofs.Siblings.{AreFollowersTo}
use Rattle.visit_tree.proofs.linking.pass_on.Given as goal

abbrev pub invariant-loop-place : goal.invariant-loop-place
invariant-loop-place l = AreFollowersTo l.parents l.fn.nexts l.place l.nexts
