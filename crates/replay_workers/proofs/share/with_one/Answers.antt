use Rattle.std.proofs.Common.{map, sym, ap, subst, ◌∙◌, IsOkAnd, Some}
use Rattle.visit_replay.specs.Outcome.{outcome}
use Rattle.visit_replay.specs.RepairedSite.{site_by}
use Rattle.replay_workers.specs.Work.{with_own_page, own_page_outcomes}
use Rattle.replay_workers.specs.inside.Clients.{plain_page}
use Rattle.replay_workers.specs.inside.Shares.{HasNext}
use Rattle.replay_workers.proofs.OwnPages.{page_outcome_at}
use Rattle.replay_workers.proofs.share.with_one.Goals as goal

pub returns-clause-more : goal.returns-clause-more
returns-clause-more g c =
    let site = site_by g.H.SiteLaw.page_of g.H.SiteLaw.signals c.args.hooks.now c.args.patch.now c.args.finding.now in
    let pages = map plain_page c.args.own_pages.now in
    let own = own_page_outcomes site pages (map (λ visit. visit.now) c.args.visits.now) in
    let visit = c.index-visits-number.result in
    let at = page_outcome_at site pages c.args.visits.now c.args.number visit c.requires.there c.index-visits-number.is in
    let same = ap (λ page. Some (outcome (with_own_page site page) visit.now)) (sym c.page_at-own.ensures) in
    subst (λ done. IsOkAnd done (λ some. HasNext own c.args.number some.items c.push.new.self.items)) (sym c.in_ok-done.was)
    (c.in_ok-outcome.outcome, at ∙ same ∙ ap (λ outcome. Some outcome) (sym c.in_ok-outcome.ensures.answer), c.in_ok-push.ensures.items)
