use Rattle.std.proofs.Common.{subst}
use Rattle.byte_streams.specs.Reading.{WasRead}
use Rattle.warp_run.specs.Intake.{no_hello}
use Rattle.warp_run.proofs.IntakeLaws.{refused_meets, hello_refused}
use Rattle.warp_run.proofs.NeededLaws.{hello_needed}
use Rattle.warp_run.proofs.intake.read_hello.Goals as goal

pub returns-in-Err-clause-none : goal.returns-in-Err-clause-none
returns-in-Err-clause-none g c =
    let lines = c.args.lines in let site = c.args.site.now in let behind = c.requires.behind in let back = c.into_reader-reader in
    let new = c.in-Err.refused.lines in let why = c.in-Err.ensures.refused in
    rw c.no_hello-status.ensures
    (refused_meets (WasRead g.R.Source.answers g.R.Read.remaining lines.first back.result) new
    (subst (λ first. WasRead g.R.Source.answers g.R.Read.remaining first back.result new.answers) why.reads.first back.ensures.read)
    (hello_needed lines site behind new c.requires.needed why.reads) back.ensures.ends (no_hello c.in-Err.refused.fault) (hello_refused lines site behind new c.in-Err.refused.fault why))
