use Rattle.std.proofs.Common.{◌≡◌, false, Some, subst}
use Rattle.byte_streams.specs.Answers.{bytes_of}
use Rattle.byte_streams.specs.Cutting.{ending_of}
use Rattle.byte_streams.specs.declared.fault.LineFault.TheVariants.{Truncated}
use Rattle.file_source.specs.Source.{ReadFile}
use Rattle.file_source.proofs.Further.{whole_read}
use Rattle.file_source.proofs.source.FileSource.into_file.Goals as goal

pub returns-clause-whole : goal.returns-clause-whole
returns-clause-whole g c =
    let seen = g.F.GrowingFile.seen in
    let lost = g.F.GrowingFile.lost in
    let inside = c.self.inside in
    subst (λ (s : ReadFile _). lost s.file ≡ false → ending_of s.answers ≡ Some Truncated → seen s.file ≡ bytes_of s.answers)
    c.self.view_is (whole_read seen lost inside.file inside.history.answers inside.at inside.last c.self.invariant)
