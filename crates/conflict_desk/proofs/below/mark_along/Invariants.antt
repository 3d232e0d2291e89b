use Rattle.conflict_desk.specs.inside.Along.{goes_at}
use Rattle.conflict_desk.specs.inside.Settling.{Tell}
use Rattle.conflict_desk.proofs.below.mark_along.Given as goal

abbrev pub invariant-loop-place : goal.invariant-loop-place
invariant-loop-place l = Tell (goes_at l.cases l.visit) l.place l.marks
