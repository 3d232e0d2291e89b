use Rattle.std.proofs.Common.{◌≡◌, ap, ◌∙◌}
use Rattle.visit_replay.proofs.Stepping.{beside_is}
use Rattle.visit_replay.proofs.replaying.by_looks.Goals as goal

pub returns-clause-answer : goal.returns-clause-answer
returns-clause-answer g c =
    let visit = c.args.visit.now in
    let there : c.page-new.result.now ≡ c.args.page.now.0 = c.page-new.ensures ∙ ap (λ p. p.0) c.in_ok-beside.ensures.page in
    beside_is c.in_ok-beside.beside visit c.page-new.result.now c.args.page.now.0 c.args.page.now.1
    (g.H.SiteLaw.signals c.args.hooks.now visit.address visit.page) c.in_ok-answer.answer c.in_ok-beside.ensures.both there c.in_ok-answer.ensures.answer
