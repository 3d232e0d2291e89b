use Rattle.std.proofs.Common.{◌≡◌, [], bytes_eq}
use Rattle.std.specs.List.{AllByRecursion}
use Rattle.indexmap.specs.IndexMap.{insert_all}
use Rattle.byte_streams.specs.Reading.{WasRead}
use Rattle.warp_server.specs.program.Callers.{IsReadSo, uploads_in}
use Rattle.replay_folder.proofs.OwnRoundLaws.{let_go}
use Rattle.replay_folder.proofs.own_lanes.close_all.Given as goal

abbrev pub invariant-loop-client : goal.invariant-loop-client
invariant-loop-client g l = record {
  clients : insert_all bytes_eq l.own.entries (let_go l.client-iterator.rest.items) ≡ insert_all bytes_eq [] (let_go l.fn.lanes.items);
  read :
      AllByRecursion (IsReadSo (WasRead g.F.Source.answers g.F.Read.remaining)) (uploads_in l.client-iterator.rest.items)
      → AllByRecursion (IsReadSo (WasRead g.F.Source.answers g.F.Read.remaining)) (uploads_in l.fn.lanes.items);
}
