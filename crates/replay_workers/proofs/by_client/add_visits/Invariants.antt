use Rattle.std.proofs.Common.{◌≡◌, ◌≤◌, ◌+◌, ◌++◌, length, map, drop}
use Rattle.std.specs.Vec.{vec_capacity}
use Rattle.replay_workers.proofs.by_client.add_visits.Given as goal

abbrev pub invariant-loop-visit : goal.invariant-loop-visit
invariant-loop-visit l = record {
  listed : map (λ visit. visit.now) l.all.items ++ drop l.visit-index l.visits ≡ map (λ visit. visit.now) l.initial.all.items ++ l.visits;
  room : length l.all.items + length (drop l.visit-index l.visits) ≤ vec_capacity l.all;
}
