use Rattle.upload_reader.proofs.LaneLaws.{begins_taken}
use Rattle.upload_reader.proofs.upload.Upload.begin.Goals as goal

pub invariant_of-result : goal.invariant_of-result
invariant_of-result g c = rw c.of.ensures (begins_taken c.args.client c.args.lines c.begin.result _ _ (rw c.fault.ensures at c.begin.ensures.lane) c.begin.ensures.none c.begin.ensures.lines c.requires)
