use Rattle.std.proofs.Common.{◌≡◌, ◌<◌, [], ◌∷◌, None, All, length, take, take_all, get_or, sym, ◌∙◌, subst, arith}
use Rattle.std.proofs.lemmas.List.Elements.{All-append, All-cons, All-nil}
use Rattle.visit_replay.proofs.Places.{taken_here, read_here}
use Rattle.visit_replay.proofs.ToldLaws.{is_none}
use Rattle.visit_replay.proofs.differing.is_any_there.Goals as goal

pub loop-mark-preserved : goal.loop-mark-preserved
loop-mark-preserved c =
    let marks = c.args.marks.now in
    let i = c.loop-mark.mark-index in
    let mark = get_or marks i None in
    let below : i < length marks = omega (arith, c.loop-mark-test.true) in
    let none : mark ≡ None = is_none mark (sym c.is_some.ensures ∙ c.if-is_some.false) in
    subst (All (λ m. m ≡ None)) (sym (taken_here marks i mark below (read_here marks i None below)))
    (All-append (λ m. m ≡ None) (take i marks) (mark ∷ []) c.loop-mark.invariant (All-cons (λ m. m ≡ None) mark [] none (All-nil (λ m. m ≡ None))))

pub returns : goal.returns
returns c = λ _.
    let marks = c.args.marks.now in
    subst (All (λ m. m ≡ None)) (take_all c.loop-mark.mark-index marks (omega (arith, c.loop-mark-test.false))) c.loop-mark.invariant
