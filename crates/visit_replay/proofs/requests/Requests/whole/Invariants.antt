use Rattle.std.proofs.Common.{◌≡◌, ◌++◌, length}
use Rattle.visit_replay.proofs.requests.Requests.whole.Given as goal

abbrev pub invariant-loop-alloc : goal.invariant-loop-alloc
invariant-loop-alloc l = l.all.items ++ l.telling.1 ≡ l.self

abbrev pub decreases-loop-alloc : goal.decreases-loop-alloc
decreases-loop-alloc l = length l.telling.1
