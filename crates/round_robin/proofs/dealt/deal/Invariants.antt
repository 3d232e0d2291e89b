use Rattle.std.proofs.Common.{◌≡◌, ◌<◌, length}
use Rattle.round_robin.proofs.Turns.{IsDealing}
use Rattle.round_robin.proofs.dealt.deal.Given as goal

abbrev pub invariant-loop-item : goal.invariant-loop-item
invariant-loop-item g l = record {
  within : l.at < l.hands;
  count : length l.dealt.items ≡ l.hands;
  dealing : IsDealing l.hands l.at l.dealt.items l.item-iterator.rest.items l.fn.items.items;
}
