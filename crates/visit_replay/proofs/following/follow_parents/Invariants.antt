use Rattle.visit_replay.proofs.Families.{IsOnItsWay}
use Rattle.std.specs.BTreeMap.{get}
use Rattle.std.specs.Ordering.{nat_cmp}
use Rattle.visit_replay.proofs.following.follow_parents.Given as goal

abbrev pub invariant-loop-k : goal.invariant-loop-k
invariant-loop-k l = IsOnItsWay l.finding l.visits l.fn.outcomes.items l.k l.outcomes.items (get nat_cmp l.places) l.asked.items
