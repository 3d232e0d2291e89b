use Rattle.std.proofs.Common.{◌≡◌, ◌+◌, ◌≤◌, ◌++◌, Some, length, map}
use Rattle.std.specs.Vec.{vec_capacity}
use Rattle.shared_stock.proofs.slots.unpacked.Given as goal

abbrev pub invariant-loop-slot : goal.invariant-loop-slot
invariant-loop-slot g l = record {
  unpacked : map Some l.full.items ++ l.slot-iterator.rest.items ≡ l.fn.slots.items;
  room : length l.full.items + length l.slot-iterator.rest.items ≤ vec_capacity l.full;
}
