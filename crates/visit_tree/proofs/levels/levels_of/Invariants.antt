use Rattle.visit_tree.proofs.Depths.{AreLevelsTo}
use Rattle.visit_tree.proofs.levels.levels_of.Given as goal

abbrev pub invariant-loop-place : goal.invariant-loop-place
invariant-loop-place l = AreLevelsTo l.parents l.place l.levels.items
