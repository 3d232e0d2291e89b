use Rattle.std.proofs.Common.{◌≡◌, ◌≤◌, ◌+◌, ◌++◌, length, drop}
use Rattle.std.specs.Vec.{vec_capacity}
use Rattle.std.specs.Vec.Iter.{into_iter_items}
use Rattle.replay_workers.specs.inside.Clients.{visits_of_all, parts_of_all}
use Rattle.replay_workers.proofs.by_client.parts_of.Given as goal

abbrev pub invariant-loop-visits : goal.invariant-loop-visits
invariant-loop-visits l = record {
  room : length l.parts.items + length (drop l.visits-index l.clients) ≤ vec_capacity l.parts;
  enough : length (into_iter_items l.rest) ≡ length (visits_of_all (drop l.visits-index l.clients));
  cut : l.parts.items ++ parts_of_all (drop l.visits-index l.clients) (into_iter_items l.rest) ≡ parts_of_all l.clients l.fn.own.items;
}
