use Rattle.std.proofs.Common.{◌≡◌, ◌≤◌, ◌+◌, ◌++◌, length, map, drop}
use Rattle.std.specs.Vec.{vec_capacity}
use Rattle.replay_workers.proofs.by_client.lists_of.Given as goal

abbrev pub invariant-loop-one : goal.invariant-loop-one
invariant-loop-one l = record {
  listed : map (λ visits. visits.now) l.all.items ++ map (λ one. one.visits.now) (drop l.one-index l.clients) ≡ map (λ one. one.visits.now) l.clients;
  room : length l.all.items + length (drop l.one-index l.clients) ≤ vec_capacity l.all;
}
