use Rattle.std.proofs.Common.{◌-◌}
use Rattle.warp_run.proofs.FirstStopLaws.{IsPlainBefore}
use Rattle.warp_run.proofs.reporting.stops.first_stop.Given as goal

-- no stop was passed
abbrev pub invariant-loop-from : goal.invariant-loop-from
invariant-loop-from l = IsPlainBefore l.bytes l.from

abbrev pub decreases-loop-from : goal.decreases-loop-from
decreases-loop-from l = l.last - l.from
