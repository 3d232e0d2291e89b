use Rattle.std.proofs.Common.{◌≡◌, ◌≤◌, length}
use Rattle.std.specs.Vec.{vec_capacity}
use Rattle.crossbeam_queue.specs.Passes.{view}
use Rattle.lane_queue.specs.Opened.{fresh_taker, ArePutters}
use Rattle.lane_queue.specs.inside.Passes.{IsWholePass}
use Rattle.lane_queue.proofs.lanes.LaneQueue.split.Given as goal

abbrev pub invariant-loop-lane : goal.invariant-loop-lane
invariant-loop-lane g l =
    IsWholePass l.self l.pass × (view l.pass ≡ fresh_taker l.lane) × ArePutters l.self l.lane l.putters.items × (l.lanes ≤ vec_capacity l.putters)
    × (length l.putters.items ≡ l.lane)
