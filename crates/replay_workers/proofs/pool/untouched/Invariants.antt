use Rattle.std.proofs.Common.{◌≡◌, ◌≤◌, length}
use Rattle.std.specs.Vec.{vec_capacity}
use Rattle.replay_workers.proofs.pool.untouched.Given as goal

abbrev pub invariant-loop-k : goal.invariant-loop-k
invariant-loop-k l = record {
  made : length l.all.items ≡ l.k;
  room : l.fn.count ≤ vec_capacity l.all;
}
