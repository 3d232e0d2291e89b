use Rattle.std.proofs.Common.{◌≡◌, length}
use Rattle.shared_stock.specs.Slots.{AreMade, ArePlaced}
use Rattle.shared_stock.proofs.slots.place_each.Given as goal

abbrev pub invariant-loop-made : goal.invariant-loop-made
invariant-loop-made g l = record {
  left : AreMade g.L.MadeOf.makes l.made-iterator.rest.items;
  placed : ArePlaced g.L.MadeOf.makes l.slots.items;
  count : length l.slots.items ≡ length l.fn.slots.items;
}
