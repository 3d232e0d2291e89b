use Rattle.lane_queue.proofs.CoreLaws.{fifo, has_whole}
use Rattle.lane_queue.proofs.queue_core.State.tell.Goals as goal

pub returns-clause-fifo : goal.returns-clause-fifo
returns-clause-fifo c = rw (← c.self.view_is) (fifo c.self.inside.room c.self.inside.taken c.self.inside.items.items c.self.inside.counts.items)

pub returns-clause-whole : goal.returns-clause-whole
returns-clause-whole c =
    rw (← c.self.view_is) (has_whole c.self.inside.room c.self.inside.taken c.self.inside.items.items c.self.inside.counts.items c.self.inside.over.items c.self.invariant)
