use Rattle.std.proofs.Common.{◌≡◌, length}
use Rattle.replay_folder.proofs.HandLaws.{IsTakingHand}
use Rattle.replay_folder.proofs.hands.take_hand.Given as goal

abbrev pub invariant-loop-k : goal.invariant-loop-k
invariant-loop-k g l = record {
  size : length l.lanes.items ≡ l.k-end;
  taking : IsTakingHand l.fn.hand.items l.lanes.items l.k l.stop;
}
