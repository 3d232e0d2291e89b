use Rattle.std.proofs.Common.{◌≡◌, List, map, IfOk, subst}
use Rattle.visit_replay.specs.RepairedSite.{site_by}
use Rattle.visit_replay.specs.declared.outcome.Outcome.{Outcome}
use Rattle.replay_workers.proofs.OwnPages.{none_own}
use Rattle.replay_workers.proofs.pool.replay_listed.Goals as goal

pub returns : goal.returns
returns g c =
    let site = site_by g.H.SiteLaw.page_of g.H.SiteLaw.signals c.args.hooks.now c.args.patch.now c.args.finding.now in
    subst (λ (outs : List Outcome). IfOk c.replay_with_pages.result (λ own. own.items ≡ outs)) (none_own site (map (λ visit. visit.now) c.args.visits.now)) c.replay_with_pages.ensures
