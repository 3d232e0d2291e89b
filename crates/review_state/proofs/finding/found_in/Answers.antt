use Rattle.std.proofs.Common.{◌≡◌, ◌↔◌, ℕ, List, [], IsTrue, map, subst, refl}
use Rattle.std.specs.Borrow.{Bor}
use Rattle.review_state.specs.Finding.{IsFoundIn}
use Rattle.review_state.proofs.Steps.{text_at, found_more}
use Rattle.review_state.proofs.finding.found_in.Goals as goal

pub loop-place-preserved : goal.loop-place-preserved
loop-place-preserved c =
    let texts = map (λ (text : Bor (List ℕ)). text.now) c.args.texts.now in
    let none : Bor (List ℕ) = record { ref_ptr = (0, 0); now = [] } in
    let mark = c.is_found-mark.result in
    let is = subst (λ text. IsTrue mark ↔ IsFoundIn c.args.part.now text) (text_at c.args.texts.now c.loop-place.place none refl)
    c.is_found-mark.ensures in
    rw c.in_ok-push.ensures.items
    (found_more c.args.part.now texts c.loop-place.place c.loop-place.marks.items mark c.loop-place.invariant is)
