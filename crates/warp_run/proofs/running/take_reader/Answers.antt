use Rattle.std.proofs.Common.{◌≡◌, sym, ap, ◌∙◌, Some}
use Rattle.warp_run.proofs.RunLaws.{last_only}
use Rattle.warp_run.proofs.running.take_reader.Goals as goal

pub returns-clause-same : goal.returns-clause-same
returns-clause-same g c has =
    let last : has.entry ≡ (c.in-Some.field-0-0, c.in-Some.lane) = last_only _ _ c.pop.new.self.entries (sym has.entries_are ∙ c.in-Some.ensures.entries) in
    let some : Some has.now ≡ Some c.in-Some-upload.upload = sym has.upload_is ∙ ap (λ e. e.1.upload) last ∙ c.in-Some-upload.is in
    let same : has.now ≡ c.in-Some-upload.upload = cc in
    rw same c.into_reader.ensures.same

pub returns-clause-read : goal.returns-clause-read
returns-clause-read g c has =
    let last : has.entry ≡ (c.in-Some.field-0-0, c.in-Some.lane) = last_only _ _ c.pop.new.self.entries (sym has.entries_are ∙ c.in-Some.ensures.entries) in
    let some : Some has.now ≡ Some c.in-Some-upload.upload = sym has.upload_is ∙ ap (λ e. e.1.upload) last ∙ c.in-Some-upload.is in
    let same : has.now ≡ c.in-Some-upload.upload = cc in
    rw same (c.into_reader.ensures.read, c.into_reader.ensures.ends)
