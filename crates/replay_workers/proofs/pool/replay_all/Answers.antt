use Rattle.std.proofs.Common.{map, ap, ◌∙◌}
use Rattle.visit_replay.specs.RepairedSite.{site_by}
use Rattle.replay_workers.specs.Work.{own_outcomes}
use Rattle.replay_workers.specs.inside.Clients.{follow_all}
use Rattle.replay_workers.proofs.ByClient.{followed_own}
use Rattle.replay_workers.proofs.pool.replay_all.Goals as goal

pub returns-clause-ok : goal.returns-clause-ok
returns-clause-ok g c =
    let site = site_by g.H.SiteLaw.page_of g.H.SiteLaw.signals c.args.hooks.now c.args.patch.now c.args.finding.now in
    let clients = c.args.clients.now in
    c.in_ok-follow_each.ensures ∙ ap (follow_all c.args.finding.now clients) (c.in_ok-own.ensures ∙ ap (own_outcomes site) (ap (map (λ visit. visit.now)) c.as_slice.ensures.value ∙ c.in_ok-visits.ensures)) ∙ followed_own site clients
