use Rattle.std.proofs.Common.{sym, ◌∙◌}
use Rattle.review_state.proofs.Parts.{told_by_find}
use Rattle.review_state.proofs.finding.has_part.Goals as goal

pub returns : goal.returns
returns c =
    let told = told_by_find c.args.text.now c.args.part.now c.find.result c.find.ensures in
    (λ is. told.0 (sym c.is_some.ensures ∙ is), λ part_of. c.is_some.ensures ∙ told.1 part_of)
