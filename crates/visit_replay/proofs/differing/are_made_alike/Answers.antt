use Rattle.std.proofs.Common.{ap₂, ◌∙◌}
use Rattle.std.proofs.lemmas.Result.{IfOk-weaker}
use Rattle.visit_replay.specs.Difference.{are_alike}
use Rattle.visit_replay.proofs.FreshValues.{alike_counted}
use Rattle.visit_replay.proofs.differing.are_made_alike.Goals as goal

pub returns-clause-alike : goal.returns-clause-alike
returns-clause-alike c =
    let fresh = c.args.fresh.now in
    let before = c.in_ok-before.ensures fresh c.requires.was in
    let now = c.in_ok-now.ensures fresh c.requires.is in
    IfOk-weaker c.are_alike.result _ _
    (λ alike told. told ∙ ap₂ (are_alike fresh) before now ∙ alike_counted fresh c.args.was.now c.args.is.now) c.are_alike.ensures.alike
