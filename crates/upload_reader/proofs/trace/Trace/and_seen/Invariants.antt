-- What the result holds: the values so far, and the one that comes next.
use Rattle.std.proofs.Common.{[], ◌∷◌, ◌++◌}
use Rattle.upload_reader.proofs.trace.Trace.and_seen.Given as goal

abbrev pub ghost-holding : goal.ghost-holding
ghost-holding g a = a._before.now.items ++ a._item.now.value ∷ []
