use Rattle.lane_queue.proofs.Steps.{pushes, sees}
use Rattle.lane_queue.proofs.lanes.LaneQueue.push.Goals as goal

pub push_as-pushed-requires-clause-rule : goal.push_as-pushed-requires-clause-rule
push_as-pushed-requires-clause-rule g c =
    let may = c.requires.may in
    (rw may.3 (pushes _ _ _ _ _ may.0 may.1 may.2), sees _ _)
