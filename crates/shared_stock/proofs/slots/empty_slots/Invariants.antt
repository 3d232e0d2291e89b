use Rattle.std.proofs.Common.{◌≡◌, ◌≤◌, length, replicate, None}
use Rattle.std.specs.Vec.{vec_capacity}
use Rattle.shared_stock.proofs.slots.empty_slots.Given as goal

abbrev pub invariant-loop-k : goal.invariant-loop-k
invariant-loop-k g l = record {
  made : l.slots.items ≡ replicate l._k None;
  size : length l.slots.items ≡ l._k;
  room : l.fn.count ≤ vec_capacity l.slots;
}
