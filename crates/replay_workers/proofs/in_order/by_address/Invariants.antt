use Rattle.std.proofs.Common.{◌≤◌, length}
use Rattle.std.specs.Vec.{vec_capacity}
use Rattle.replay_workers.proofs.Ordering.{IsFront}
use Rattle.replay_workers.proofs.in_order.by_address.Given as goal

abbrev pub invariant-loop-k : goal.invariant-loop-k
invariant-loop-k l = record {
  front : IsFront l.visits l.k l.all.items;
  room : length l.visits ≤ vec_capacity l.all;
}
