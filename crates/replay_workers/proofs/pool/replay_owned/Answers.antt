use Rattle.std.proofs.Common.{length, map, ap, ap₂, ◌∙◌}
use Rattle.own_pages.specs.OwnPages.{own_page_at}
use Rattle.visit_replay.specs.RepairedSite.{site_by}
use Rattle.replay_workers.specs.Work.{own_page_outcomes}
use Rattle.replay_workers.specs.inside.Clients.{plain_page, follow_all}
use Rattle.replay_workers.proofs.ByClient.{followed_with_own}
use Rattle.replay_workers.proofs.OwnPages.{page_count}
use Rattle.replay_workers.proofs.pool.replay_owned.Goals as goal

pub follow_each-requires-clause-count : goal.follow_each-requires-clause-count
follow_each-requires-clause-count g c κs within =
    let site = site_by g.H.SiteLaw.page_of g.H.SiteLaw.signals c.args.hooks.now c.args.patch.now c.args.finding.now in
    ap length c.in_ok-outcomes.ensures
    ∙ page_count site (map plain_page c.as_slice-own_pages.result.now) (map (λ visit. visit.now) c.as_slice-all.result.now)
    ∙ ap length (ap (map (λ visit. visit.now)) c.as_slice-all.ensures.value ∙ c.in_ok-visits.ensures)

pub returns-clause-ok : goal.returns-clause-ok
returns-clause-ok g c =
    let site = site_by g.H.SiteLaw.page_of g.H.SiteLaw.signals c.args.hooks.now c.args.patch.now c.args.finding.now in
    let lists = c.as_slice-lists.result.now in
    c.in_ok-follow_each.ensures
    ∙ ap (follow_all c.args.finding.now lists)
    (c.in_ok-outcomes.ensures ∙ ap₂ (own_page_outcomes site) (ap (map plain_page) c.as_slice-own_pages.ensures.value ∙ c.in_ok-pages.ensures)
    (ap (map (λ visit. visit.now)) c.as_slice-all.ensures.value ∙ c.in_ok-visits.ensures))
    ∙ followed_with_own site (own_page_at c.args.own.now) c.args.clients.now lists (ap (map (λ visits. visits.now)) c.as_slice-lists.ensures.value ∙ c.in_ok-kept.ensures)
