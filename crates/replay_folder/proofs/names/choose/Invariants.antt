use Rattle.std.proofs.Common.{◌≡◌, ◌++◌, filter}
use Rattle.replay_folder.specs.Names.{is_upload_name}
use Rattle.replay_folder.proofs.names.choose.Given as goal

abbrev pub invariant-loop-name : goal.invariant-loop-name
invariant-loop-name l = l.chosen.items ++ filter is_upload_name l.name-iterator.rest.items ≡ filter is_upload_name l.fn.names.items
