use Rattle.std.proofs.Common.{sym, subst}
use Rattle.upload_reader.specs.Upload.{IsUntouched}
use Rattle.upload_reader.proofs.LaneLaws.{begins_again}
use Rattle.upload_reader.proofs.upload.Upload.resume.Goals as goal

pub invariant_of-result : goal.invariant_of-result
invariant_of-result g c = begins_again _ _ c.self.inside.progress c.resume.result _ _ _ c.self.invariant (subst IsUntouched (sym c.self.view_is) c.requires) c.resume.ensures.lane c.resume.ensures.none c.resume.ensures.lines
