use Rattle.std.proofs.Common.{subst}
use Rattle.byte_streams.specs.Cutting.{ending_of}
use Rattle.byte_streams.specs.Reading.{WasRead, input}
use Rattle.warp_run.specs.Run.{Meets}
use Rattle.warp_run.proofs.IntakeLaws.{refused_meets, is_refused}
use Rattle.warp_run.proofs.NeededLaws.{line_needed}
use Rattle.warp_run.proofs.intake.read_input.Goals as goal

pub returns-in-Err-clause-none : goal.returns-in-Err-clause-none
returns-in-Err-clause-none g c =
    let reads = c.read_site.ensures.reads in let new = c.read_site.new.lines in let back = c.into_reader-reader in
    refused_meets (WasRead g.R.Source.answers g.R.Read.remaining c.args.lines.first back.result) new
    (subst (λ first. WasRead g.R.Source.answers g.R.Read.remaining first back.result new.answers) reads.first back.ensures.read)
    (line_needed c.args.lines new c.requires.fresh reads) back.ensures.ends c.in-Err.status
    (is_refused c.in-Err.status (input new) (ending_of new.answers) c.in-Err.ensures.refused)

pub returns-in-Ok-read_hello-clause-ok : goal.returns-in-Ok-read_hello-clause-ok
returns-in-Ok-read_hello-clause-ok g c = record {
  at = c.read_site.new.lines;
  needed = line_needed c.args.lines c.read_site.new.lines c.requires.fresh c.read_site.ensures.reads;
  behind = c.in-Ok.ensures.site;
  begins = c.in-Ok-read_hello.ensures.ok;
}

pub returns-in-Err-read_hello-clause-none : goal.returns-in-Err-read_hello-clause-none
returns-in-Err-read_hello-clause-none g c writes nothing =
    let none = c.in-Err-read_hello.none in
    subst (λ first. Meets (WasRead g.R.Source.answers g.R.Read.remaining first none.reader) writes none.status) c.read_site.ensures.reads.first
    (c.in-Err-read_hello.ensures.none writes nothing)
