use Rattle.std.proofs.Common.{◌≡◌, ◌<◌, ◌≤◌, ◌-◌, length}
use Rattle.std.specs.Vec.{vec_capacity}
use Rattle.round_robin.proofs.Turns.{IsCollecting}
use Rattle.round_robin.proofs.dealt.collect.Given as goal

abbrev pub invariant-loop-k : goal.invariant-loop-k
invariant-loop-k g l = record {
  within : l.at < length l.fn.hands.items;
  count : length l.hands.items ≡ length l.fn.hands.items;
  done : length l.items.items ≡ l._k;
  room : l.count ≤ vec_capacity l.items;
  collecting : IsCollecting (length l.fn.hands.items) l.at l.fn.hands.items l.hands.items l.items.items (l.count - l._k);
}
