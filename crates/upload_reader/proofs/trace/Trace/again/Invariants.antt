-- What the result holds: the values so far.
use Rattle.upload_reader.proofs.trace.Trace.again.Given as goal

abbrev pub ghost-holding : goal.ghost-holding
ghost-holding g a = a._before.now.items
