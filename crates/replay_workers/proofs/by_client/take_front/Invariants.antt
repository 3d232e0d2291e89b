use Rattle.std.proofs.Common.{◌≡◌, ◌≤◌, ◌+◌, ◌++◌, length}
use Rattle.std.specs.Vec.{vec_capacity}
use Rattle.std.specs.Vec.Iter.{into_iter_items}
use Rattle.replay_workers.proofs.by_client.take_front.Given as goal

abbrev pub invariant-loop : goal.invariant-loop
invariant-loop l = record {
  taken : length l.front.items ≡ l.counter;
  left : l.fn.count ≤ length (into_iter_items l.rest) + l.counter;
  items : l.front.items ++ into_iter_items l.rest ≡ into_iter_items l.fn.rest;
  room : l.fn.count ≤ vec_capacity l.front;
}
