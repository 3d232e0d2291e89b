use Rattle.std.proofs.Common.{◌≤◌, length}
use Rattle.visit_tree.specs.inside.Siblings.{AreFirsts, AreNexts}
use Rattle.visit_tree.proofs.linking.link.Given as goal

abbrev pub invariant-loop-place : goal.invariant-loop-place
invariant-loop-place l = record {
  within : l.place ≤ length l.parents;
  firsts : AreFirsts l.parents l.place l.firsts;
  nexts : AreNexts l.parents l.place l.nexts;
}

abbrev pub decreases-loop-place : goal.decreases-loop-place
decreases-loop-place l = l.place
