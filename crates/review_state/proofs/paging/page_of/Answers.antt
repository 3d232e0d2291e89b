use Rattle.std.proofs.Common.{ℕ, ◌+◌, List, [], ◌∷◌, ◌++◌, length, filter, get_or, nat_le, nat_lt, false, ◌&&◌, if◌then◌else◌, refl, sym, ap, ◌∙◌, arith}
use Rattle.std.specs.List.{range_with_len}
use Rattle.review_state.specs.Paging.{shown_of}
use Rattle.review_state.proofs.Steps.{marked_more, few_marked, one_counted, page_more}
use Rattle.review_state.proofs.paging.page_of.Goals as goal

pub pass-requires : goal.pass-requires
pass-requires c =
    let p = λ (k : ℕ). get_or c.args.marks.now k false in
    omega (arith, c.loop-place.invariant.count, few_marked p c.loop-place.place)

pub loop-place-preserved : goal.loop-place-preserved
loop-place-preserved c =
    let place = c.loop-place.place in
    let from = c.args.from in
    let most = c.args.most in
    let p = λ (k : ℕ). get_or c.args.marks.now k false in
    let mark = p place in
    let xs = filter p (range_with_len 0 place) in
    let more = marked_more p place mark refl in
    let next = λ (count : ℕ) (places : List ℕ).
    if mark && (nat_le from count && nat_lt (length places) most) then places ++ place ∷ [] else places in
    record {
      count = c.in_ok-pass.ensures.count ∙ ap (λ n. n + (if mark then 1 else 0)) c.loop-place.invariant.count
          ∙ sym (one_counted xs place mark) ∙ sym (ap length more);
      places = c.in_ok-pass.ensures.places ∙ ap (λ n. next n c.loop-place.page.places.items) c.loop-place.invariant.count
          ∙ ap (next (length xs)) c.loop-place.invariant.places
          ∙ sym (page_more from most place xs mark) ∙ sym (ap (shown_of from most) more);
    }
