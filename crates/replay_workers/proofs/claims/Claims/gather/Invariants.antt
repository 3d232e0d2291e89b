use Rattle.std.proofs.Common.{All}
use Rattle.replay_workers.specs.Draws.{IsSeatOf}
use Rattle.replay_workers.specs.inside.Seats.{IsGathered}
use Rattle.replay_workers.proofs.claims.Claims.gather.Given as goal

abbrev pub invariant-loop-seat : goal.invariant-loop-seat
invariant-loop-seat l = IsGathered l.self l.seats.items l.fn.seats.items l.all × All (IsSeatOf l.self) l.seats.items

abbrev pub decreases-loop-seat : goal.decreases-loop-seat
decreases-loop-seat l = goal.left-loop-seat l
