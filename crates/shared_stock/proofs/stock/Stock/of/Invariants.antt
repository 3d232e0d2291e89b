use Rattle.std.proofs.Common.{◌+◌, ◌≤◌, length}
use Rattle.std.specs.Vec.{vec_capacity}
use Rattle.shared_stock.proofs.Beginnings.{Begin}
use Rattle.shared_stock.proofs.stock.Stock.of.Given as goal

abbrev pub invariant-loop-item : goal.invariant-loop-item
invariant-loop-item g l = record {
  begin : Begin g.L.StockList.list l.items.items;
  room : length l.left.items + length l.items.items ≤ vec_capacity l.left;
}

abbrev pub decreases-loop-item : goal.decreases-loop-item
decreases-loop-item g l = goal.left-loop-item g l
