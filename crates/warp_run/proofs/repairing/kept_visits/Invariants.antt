use Rattle.std.proofs.Common.{◌≡◌, ◌++◌, map}
use Rattle.warp_run.proofs.repairing.kept_visits.Given as goal

abbrev pub invariant-loop-lane : goal.invariant-loop-lane
invariant-loop-lane g l = map (λ visits. visits.now) l.all.items ++ map (λ lane. lane.log.log.visits) l.lane-iterator ≡ map (λ lane. lane.log.log.visits) l.initial.lane-iterator
