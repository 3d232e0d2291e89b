use Rattle.std.proofs.Common.{◌≡◌, bytes_eq}
use Rattle.indexmap.specs.IndexMap.{insert_all}
use Rattle.lanes_in_turn.specs.Round.{without_lanes}
use Rattle.replay_folder.proofs.own_lanes.put_back.Given as goal

abbrev pub invariant-loop-client : goal.invariant-loop-client
invariant-loop-client g l = insert_all bytes_eq l.clients.entries (without_lanes l.client-iterator) ≡ insert_all bytes_eq l.fn.clients.entries (without_lanes l.fn.own.entries)
