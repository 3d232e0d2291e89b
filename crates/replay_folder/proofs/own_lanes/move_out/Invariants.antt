use Rattle.std.specs.List.{AllByRecursion}
use Rattle.upload_reader.specs.Upload.{IsUntouched}
use Rattle.replay_folder.proofs.OwnLanesLaws.{IsMoving}
use Rattle.replay_folder.proofs.own_lanes.move_out.Given as goal

abbrev pub invariant-loop-upload : goal.invariant-loop-upload
invariant-loop-upload g l = record {
  moving : IsMoving l.quota l.fn.clients.entries l.fn.uploads.items l.clients.entries l.upload-iterator.rest.items l.lanes.items;
  untouched : AllByRecursion IsUntouched l.upload-iterator.rest.items;
}
