use Rattle.std.proofs.Common.{◌≡◌, true, IfOk, Some, sym, ◌∙◌}
use Rattle.std.proofs.lemmas.Result.{IfOk-weaker}
use Rattle.visit_replay.specs.Outcome.{is_affected, on_page}
use Rattle.visit_replay.specs.RepairedSite.{site_by}
use Rattle.visit_replay.proofs.Stepping.{outcome_is}
use Rattle.visit_replay.proofs.replaying.replay_beside.Goals as goal

pub returns-then-affected-clause-answer : goal.returns-then-affected-clause-answer
returns-then-affected-clause-answer g c =
    let visit = c.args.visit.now in
    let page = c.args.page.now in
    let told = g.H.SiteLaw.signals c.args.hooks.now visit.address visit.page in
    let site = site_by g.H.SiteLaw.page_of g.H.SiteLaw.signals c.args.hooks.now c.args.patch.now (Some page.1) in
    let affected : is_affected c.args.patch.now visit.address ≡ true = sym c.affected.ensures ∙ c.if-affected.true in
    let is : IfOk c.by_looks.result (λ answer. answer ≡ on_page (Some page.1) visit told (Some page.0)) = c.by_looks.ensures.answer in
    IfOk-weaker c.by_looks.result (λ answer. answer ≡ on_page (Some page.1) visit told (Some page.0)) _ (λ answer is there. outcome_is site visit page.0 answer affected there is) is
