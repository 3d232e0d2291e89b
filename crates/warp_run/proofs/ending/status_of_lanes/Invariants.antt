use Rattle.std.proofs.Common.{◌≡◌}
use Rattle.warp_run.specs.Shortage.{status_of_lanes}
use Rattle.warp_run.proofs.ending.status_of_lanes.Given as goal

abbrev pub invariant-loop-lane : goal.invariant-loop-lane
invariant-loop-lane g l = status_of_lanes l.lane-iterator ≡ status_of_lanes l.initial.lane-iterator
