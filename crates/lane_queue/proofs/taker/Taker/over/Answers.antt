use Rattle.lane_queue.proofs.Counts.{fresh}
use Rattle.lane_queue.proofs.taker.Taker.over.Goals as goal

pub invariant_of-result : goal.invariant_of-result
invariant_of-result g c = rw c.requires.counts (fresh c.args.pass c.args.lanes c.requires.whole c.requires.fresh)
