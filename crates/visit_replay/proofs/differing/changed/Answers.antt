use Rattle.std.proofs.Common.{◌≡◌, Some, sym, ap, ◌∙◌, option_and_then}
use Rattle.std.proofs.lemmas.Result.{IfOk-weaker}
use Rattle.visit_replay.specs.Difference.{was_asked, asks_now}
use Rattle.visit_replay.specs.declared.difference.Contrast.TheVariants.{Changed}
use Rattle.visit_replay.proofs.differing.changed.Goals as goal

pub returns-in_ok-page-in-Some : goal.returns-in_ok-page-in-Some
returns-in_ok-page-in-Some g c =
    let visit = c.args.visit.now in
    let fresh = c.args.fresh.now in
    let page_of = g.H.SiteLaw.page_of c.args.hooks.now in
    let there : Some c.in-Some.new ≡ page_of visit.address = sym c.in-Some.is ∙ c.in_ok-make.ensures ∙ ap page_of c.as_str.ensures in
    IfOk-weaker c.changed_beside.result _ _
    (λ it told. told ∙ ap (λ now. Some (Changed (was_asked visit c.args.k) now))
    (ap (λ looks. asks_now looks.1 visit looks.0 c.args.k) c.in_ok-page-in-Some.ensures ∙ ap (option_and_then (λ page. asks_now fresh visit page c.args.k)) there))
    c.changed_beside.ensures.told
