use Rattle.std.proofs.Common.{◌≡◌, true, Some, sym, ap, ◌∙◌}
use Rattle.std.proofs.lemmas.Result.{IfOk-weaker}
use Rattle.visit_replay.specs.Outcome.{is_affected}
use Rattle.visit_replay.specs.RepairedSite.{site_by}
use Rattle.visit_replay.proofs.Stepping.{outcome_is}
use Rattle.visit_replay.proofs.replaying.replay.Goals as goal

pub returns-in-Some : goal.returns-in-Some
returns-in-Some g c =
    let visit = c.args.visit.now in
    let hooks = c.args.hooks.now in
    let site = site_by g.H.SiteLaw.page_of g.H.SiteLaw.signals hooks c.args.patch.now c.args.finding.now in
    let affected : is_affected c.args.patch.now visit.address ≡ true = sym c.affected.ensures ∙ c.if-not-affected.false in
    let there : g.H.SiteLaw.page_of hooks visit.address ≡ Some c.in-Some.new = ap (g.H.SiteLaw.page_of hooks) (sym c.as_str.ensures) ∙ sym c.in_ok-new.ensures ∙ c.in-Some.is in
    IfOk-weaker c.find_on.result _ _ (λ answer is. outcome_is site visit c.in-Some.new answer affected there is) c.find_on.ensures
