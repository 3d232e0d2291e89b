use Rattle.std.proofs.Common.{◌+◌, ◌≤◌, length}
use Rattle.std.specs.List.{All}
use Rattle.std.specs.Vec.{vec_capacity}
use Rattle.upload_lanes.specs.inside.Party.{IsFreshHand}
use Rattle.replay_folder.proofs.HandLaws.{TakesRest}
use Rattle.replay_folder.proofs.hands.take_in_turn.Given as goal

abbrev pub invariant-loop-hand : goal.invariant-loop-hand
invariant-loop-hand g l = record {
  fresh : All IsFreshHand l.hand-iterator.rest.items;
  each : TakesRest l.fn.hands.items l.taken.items l.hand-iterator.rest.items;
  room : length l.taken.items + length l.hand-iterator.rest.items ≤ vec_capacity l.taken;
}
