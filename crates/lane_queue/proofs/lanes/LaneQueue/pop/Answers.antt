use Rattle.lane_queue.proofs.Steps.{pops, sees}
use Rattle.lane_queue.proofs.lanes.LaneQueue.pop.Goals as goal

pub pop_as-popped-requires-clause-rule : goal.pop_as-popped-requires-clause-rule
pop_as-popped-requires-clause-rule g c = (pops _ _ c.requires.takes, sees _ _)
