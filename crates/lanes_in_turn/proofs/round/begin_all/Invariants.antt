use Rattle.std.proofs.Common.{◌≡◌, ◌++◌, map, bytes_eq}
use Rattle.std.specs.List.{AllByRecursion}
use Rattle.indexmap.specs.IndexMap.{get}
use Rattle.upload_reader.specs.Upload.{IsUntouched}
use Rattle.lanes_in_turn.specs.Taking.{begun_lane}
use Rattle.lanes_in_turn.proofs.round.begin_all.Given as goal

abbrev pub invariant-loop-upload : goal.invariant-loop-upload
invariant-loop-upload g l = record {
  lanes : l.lanes.items ++ map (begun_lane (get bytes_eq l.clients) l.quota) l.upload-iterator.rest.items ≡ map (begun_lane (get bytes_eq l.clients) l.quota) l.initial.upload-iterator.rest.items;
  untouched : AllByRecursion IsUntouched l.upload-iterator.rest.items;
}
