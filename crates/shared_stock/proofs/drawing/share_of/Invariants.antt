use Rattle.std.proofs.Common.{◌+◌, ◌-◌, ◌≤◌, length}
use Rattle.std.specs.Vec.{vec_capacity}
use Rattle.shared_stock.specs.Slots.{AreMade}
use Rattle.shared_stock.proofs.drawing.share_of.Given as goal

abbrev pub invariant-loop-k : goal.invariant-loop-k
invariant-loop-k g l = record {
  made : AreMade g.L.MadeOf.makes l.share.items;
  room : length l.share.items + (l.fn.most - l._k) ≤ vec_capacity l.share;
}
