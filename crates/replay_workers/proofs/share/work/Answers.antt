use Rattle.std.proofs.Common.{map, subst}
use Rattle.visit_replay.specs.RepairedSite.{site_by}
use Rattle.replay_workers.specs.Work.{IsShare}
use Rattle.replay_workers.proofs.OwnPages.{none_own}
use Rattle.replay_workers.proofs.share.work.Goals as goal

pub returns : goal.returns
returns g c =
    let site = site_by g.H.SiteLaw.page_of g.H.SiteLaw.signals c.args.hooks.now c.args.patch.now c.args.finding.now in
    subst (λ own. IsShare own c.args.claims.now c.args.seat c.work_with.result) (none_own site (map (λ visit. visit.now) c.args.visits.now)) c.work_with.ensures
