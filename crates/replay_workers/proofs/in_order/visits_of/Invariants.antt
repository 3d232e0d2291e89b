use Rattle.std.proofs.Common.{◌≡◌, ◌≤◌, ◌+◌, ◌++◌, length, map, drop}
use Rattle.std.specs.Vec.{vec_capacity}
use Rattle.replay_workers.proofs.in_order.visits_of.Given as goal

abbrev pub invariant-loop-one : goal.invariant-loop-one
invariant-loop-one l = record {
  listed : map (λ visit. visit.now) l.visits.items ++ map (λ one. one.visit.now) (drop l.one-index l.all) ≡ map (λ one. one.visit.now) l.all;
  room : length l.visits.items + length (drop l.one-index l.all) ≤ vec_capacity l.visits;
}
