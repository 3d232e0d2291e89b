-- What the result holds: nothing.
use Rattle.std.proofs.Common.{[]}
use Rattle.upload_reader.proofs.trace.Trace.new.Given as goal

abbrev pub ghost-holding : goal.ghost-holding
ghost-holding g a = []
