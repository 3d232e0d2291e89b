use Rattle.std.proofs.Common.{◌≡◌, ◌≤◌, ◌+◌, ◌++◌, length, map, Ok}
use Rattle.std.specs.Vec.{vec_capacity}
use Rattle.replay_workers.proofs.hands.all_given.Given as goal

abbrev pub invariant-loop-answer : goal.invariant-loop-answer
invariant-loop-answer l = record {
  listed : map (λ hand. Ok hand) l.all.items ++ l.answer-iterator.rest.items ≡ l.fn.answers.items;
  room : length l.all.items + length l.answer-iterator.rest.items ≤ vec_capacity l.all;
}
