use Rattle.std.proofs.Common.{◌≡◌, ◌≤◌, length, bytes_eq}
use Rattle.indexmap.specs.IndexMap.{spare, insert_all}
use Rattle.lanes_in_turn.proofs.round.put_back.Given as goal

abbrev pub invariant-loop-client : goal.invariant-loop-client
invariant-loop-client g l = record {
  entries : insert_all bytes_eq l.clients.entries l.client-iterator.rest.items ≡ insert_all bytes_eq l.initial.clients.entries l.initial.client-iterator.rest.items;
  room : length l.client-iterator.rest.items ≤ spare l.clients;
}
