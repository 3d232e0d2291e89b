use Rattle.visit_replay.proofs.FirstAsked.{HasFirstOf}
use Rattle.visit_replay.proofs.first_deeds.first_by_number.Given as goal

abbrev pub invariant-loop-place : goal.invariant-loop-place
invariant-loop-place l = HasFirstOf l.trail l.place l.places
