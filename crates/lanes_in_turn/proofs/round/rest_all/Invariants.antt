use Rattle.std.proofs.Common.{◌≡◌, ◌≤◌, ◌++◌, map, take, drop}
use Rattle.indexmap.specs.IndexMap.{spare}
use Rattle.lanes_in_turn.specs.Round.{without_lane}
use Rattle.lanes_in_turn.proofs.round.rest_all.Given as goal

abbrev pub invariant-loop-k : goal.invariant-loop-k
invariant-loop-k g l = record {
  entries : l.clients.entries ≡ map (λ entry. (entry.0, without_lane entry.1)) (take l.k l.initial.clients.entries) ++ drop l.k l.initial.clients.entries;
  room : spare l.initial.clients ≤ spare l.clients;
}
