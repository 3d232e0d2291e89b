use Rattle.std.proofs.Common.{subst, ap, ◌∙◌}
use Rattle.byte_streams.specs.Reading.{WasRead}
use Rattle.site_line.specs.Reading.{site_quota}
use Rattle.lanes_in_turn.specs.Taking.{IsGatheredAlone}
use Rattle.warp_run.proofs.RunLaws.{has_only, met}
use Rattle.warp_run.proofs.running.run_upload.Goals as goal

pub take_reader-requires-after_bounds : goal.take_reader-requires-after_bounds
take_reader-requires-after_bounds g c κs lives =
    let whole = subst (λ quota. IsGatheredAlone c.args.upload quota c.in-Ok.gathered) c.quota.ensures c.in-Ok.ensures in
    has_only c.args.upload (site_quota c.args.site.now) c.in-Ok.gathered whole

pub returns-in-Ok-conclude-clause-same : goal.returns-in-Ok-conclude-clause-same
returns-in-Ok-conclude-clause-same g c =
    let whole = subst (λ quota. IsGatheredAlone c.args.upload quota c.in-Ok.gathered) c.quota.ensures c.in-Ok.ensures in
    c.take_reader.ensures.same (has_only c.args.upload (site_quota c.args.site.now) c.in-Ok.gathered whole) ∙ ap g.R.Source.lender whole.is_taken.own.reads.first

pub returns-in-Ok-conclude-clause-met : goal.returns-in-Ok-conclude-clause-met
returns-in-Ok-conclude-clause-met g c =
    let gathered = c.in-Ok.gathered in let done = c.in-Ok-conclude.ensures in
    let whole = subst (λ quota. IsGatheredAlone c.args.upload quota gathered) c.quota.ensures c.in-Ok.ensures in
    let now = whole.is_taken.now in let (told, ends) = c.take_reader.ensures.read (has_only c.args.upload (site_quota c.args.site.now) gathered whole) in
    rw (c.written_status-status.ensures, c.status_of.ensures)
    (met c.args.site.now c.args.upload c.requires.opened gathered whole (WasRead g.R.Source.answers g.R.Read.remaining c.args.upload.lines.first c.take_reader.result)
    (subst (λ first. WasRead g.R.Source.answers g.R.Read.remaining first c.take_reader.result now.lines.answers) whole.is_taken.own.reads.first told) ends _
    c.in-Ok-conclude.concluded.report (rw done.repaired at done.report))
