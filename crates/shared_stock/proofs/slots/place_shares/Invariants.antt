use Rattle.std.proofs.Common.{◌≡◌, length}
use Rattle.std.specs.Prelude.{IfOk}
use Rattle.std.specs.List.{AllByRecursion}
use Rattle.shared_stock.specs.Slots.{AreMade, ArePlaced}
use Rattle.shared_stock.proofs.slots.place_shares.Given as goal

abbrev pub invariant-loop-share : goal.invariant-loop-share
invariant-loop-share g l = record {
  left : AllByRecursion (λ share. IfOk share (λ made. AreMade g.L.MadeOf.makes made.items)) l.share-iterator.rest.items;
  placed : ArePlaced g.L.MadeOf.makes l.slots.items;
  count : length l.slots.items ≡ length l.fn.slots.items;
}
