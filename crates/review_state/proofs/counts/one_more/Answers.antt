use Rattle.std.proofs.Common.{arith}
use Rattle.conflict_desk.specs.declared.decided.Standing.TheVariants.{Untouched, Done, Waiting, Kept, Cancelled}
use Rattle.review_state.proofs.counts.one_more.Goals as goal

pub overflow_add-more : goal.overflow_add-more
overflow_add-more c = omega (arith, c.requires Waiting)

pub overflow_add-more-in-Kept : goal.overflow_add-more-in-Kept
overflow_add-more-in-Kept c = omega (arith, c.requires Kept)

pub overflow_add-more-in-Cancelled : goal.overflow_add-more-in-Cancelled
overflow_add-more-in-Cancelled c = omega (arith, c.requires Cancelled)

pub overflow_add-more-in-Done : goal.overflow_add-more-in-Done
overflow_add-more-in-Done c = omega (arith, c.requires Done)

pub overflow_add-more-in-Untouched : goal.overflow_add-more-in-Untouched
overflow_add-more-in-Untouched c = omega (arith, c.requires Untouched)
