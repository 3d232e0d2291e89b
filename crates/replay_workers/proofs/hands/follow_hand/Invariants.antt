use Rattle.std.proofs.Common.{◌≡◌, ◌≤◌, ◌+◌, ◌++◌, length, map}
use Rattle.std.specs.Vec.{vec_capacity}
use Rattle.replay_workers.specs.inside.Clients.{followed}
use Rattle.replay_workers.proofs.hands.follow_hand.Given as goal

abbrev pub invariant-loop-part : goal.invariant-loop-part
invariant-loop-part l = record {
  listed : map (λ one. one.items) l.all.items ++ map (followed l.finding) l.part-iterator.rest.items ≡ map (followed l.finding) l.fn.hand.items;
  room : length l.all.items + length l.part-iterator.rest.items ≤ vec_capacity l.all;
}
