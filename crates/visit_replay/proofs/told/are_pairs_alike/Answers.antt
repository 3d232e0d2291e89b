use Rattle.std.proofs.Common.{◌≡◌, ◌<◌, [], length, drop, true, inl, inr, drop_of_length-le, option_map, sym, ap, ◌∙◌, arith}
use Rattle.std.proofs.lemmas.Bool.{false≢true}
use Rattle.std.proofs.lemmas.Bool.Decides.{eqb_tells}
use Rattle.visit_replay.specs.inside.FieldsNow.{pair_of, told}
use Rattle.visit_replay.specs.inside.Senders.{sent_all}
use Rattle.visit_replay.proofs.ApartForms.{encoded_all, first_same, more_left, none_left, not_over, rest_same}
use Rattle.visit_replay.proofs.ToldLaws.{both_told, some_within, told_past}
use Rattle.visit_replay.proofs.told.are_pairs_alike.Goals as goal

-- a place of the first at which none stands that counts
pub loop-place-preserved-in_default : goal.loop-place-preserved-in_default
loop-place-preserved-in_default c =
    let was = c.args.was.now in
    let place = c.loop-place.place in
    let below : place < length was.senders.now = omega (arith, c.places-place-end.ensures, c.loop-place-test.true) in
    let none = sym c.counted_at.ensures ∙ ap (option_map pair_of) c.in_default.is in
    record {
      few = c.loop-place.invariant.few;
      same = λ names marked marked' rest. c.loop-place.invariant.same names marked marked' (sym (told_past names was was.are marked place below none) ∙ rest);
      apart = λ names marked marked' whole.
          ap encoded_all (told_past names was was.are marked place below none) ∙ c.loop-place.invariant.apart names marked marked' whole;
    }

-- both are the same
pub loop-place-preserved : goal.loop-place-preserved
loop-place-preserved c =
    let was = c.args.was.now in
    let is = c.args.is.now in
    let place = c.loop-place.place in
    let at = c.next_counted-at.result in
    let p = pair_of c.in-Some.before in
    let q = pair_of c.in-Some-counted_at.now in
    let first = ap (option_map pair_of) (sym c.in-Some.is) ∙ c.counted_at.ensures in
    let second = ap (option_map pair_of) (sym c.in-Some-counted_at.is) ∙ c.counted_at-in-loop-place.ensures in
    let below : place < length was.senders.now = omega (arith, c.places-place-end.ensures, c.loop-place-test.true) in
    let below' : at < length is.senders.now = some_within is at q second in
    record {
      few = omega (arith, below');
      same = λ names marked marked' rest.
          c.loop-place.invariant.same names marked marked'
          (both_told names was is was.are is.are marked marked' place at p q below below' first second (c.in_ok-are_same.ensures.same c.if-not-branch.false) rest
          ∙ c.next_counted-at.ensures.same names marked');
      apart = λ names marked marked' whole.
          rest_same names was is was.are is.are marked marked' place at p below first q below' second
          (c.loop-place.invariant.apart names marked marked' whole ∙ ap encoded_all (sym (c.next_counted-at.ensures.same names marked')));
    }

-- none is left of the second
pub returns-in_default-counted_at-clause-apart : goal.returns-in_default-counted_at-clause-apart
returns-in_default-counted_at-clause-apart c = λ off names marked marked' whole.
    let was = c.args.was.now in
    let is = c.args.is.now in
    let place = c.loop-place.place in
    let at = c.next_counted-at.result in
    let below : place < length was.senders.now = omega (arith, c.places-place-end.ensures, c.loop-place-test.true) in
    let none = sym c.counted_at-in-loop-place.ensures ∙ ap (option_map pair_of) c.in_default-counted_at.is in
    not_over names was is was.are is.are marked marked' place at (pair_of c.in-Some.before) below (ap (option_map pair_of) (sym c.in-Some.is) ∙ c.counted_at.ensures)
    (none_left names is at c.next_counted-at.ensures.some none)
    (c.loop-place.invariant.apart names marked marked' whole ∙ ap encoded_all (sym (c.next_counted-at.ensures.same names marked')))

-- the next two differ
pub returns-then-not-branch-clause-apart : goal.returns-then-not-branch-clause-apart
returns-then-not-branch-clause-apart c = λ off names marked marked' whole.
    let was = c.args.was.now in
    let is = c.args.is.now in
    let place = c.loop-place.place in
    let at = c.next_counted-at.result in
    let p = pair_of c.in-Some.before in
    let q = pair_of c.in-Some-counted_at.now in
    let first = ap (option_map pair_of) (sym c.in-Some.is) ∙ c.counted_at.ensures in
    let second = ap (option_map pair_of) (sym c.in-Some-counted_at.is) ∙ c.counted_at-in-loop-place.ensures in
    let below : place < length was.senders.now = omega (arith, c.places-place-end.ensures, c.loop-place-test.true) in
    let below' : at < length is.senders.now = some_within is at q second in
    c.in_ok-are_same.ensures.apart c.if-not-branch.true (first_same names was is was.are is.are marked marked' place at p below first q below' second
    (c.loop-place.invariant.apart names marked marked' whole ∙ ap encoded_all (sym (c.next_counted-at.ensures.same names marked'))))

pub returns-clause-alike : goal.returns-clause-alike
returns-clause-alike c = λ alike names marked marked'.
    let was = c.args.was.now in
    let is = c.args.is.now in
    let place = c.loop-place.place in
    let at = c.next_counted.result in
    let all : at ≡ length is.senders.now = elim (eqb_tells at c.places.result) [
      | inl same ↦ same.1 ∙ c.places.ensures
      | inr other ↦ absurd (false≢true (sym other.0 ∙ alike))
    ] in
    let none : told true names (sent_all was.filled (drop place was.senders.now)) ≡ [] =
    ap (λ l. told true names (sent_all was.filled l)) (drop_of_length-le was.senders.now (omega (arith, c.places-place-end.ensures, c.loop-place-test.false))) in
    let none' : told true names (sent_all is.filled (drop at is.senders.now)) ≡ [] = ap (λ l. told true names (sent_all is.filled l)) (drop_of_length-le is.senders.now (omega (arith, all))) in
    c.loop-place.invariant.same names marked marked' (none ∙ sym none' ∙ c.next_counted.ensures.same names marked')

-- some are left of the second
pub returns-clause-apart : goal.returns-clause-apart
returns-clause-apart c = λ off names marked marked' whole.
    let was = c.args.was.now in
    let is = c.args.is.now in
    let place = c.loop-place.place in
    let at = c.next_counted.result in
    let below : at < length is.senders.now = elim (eqb_tells at c.places.result) [
      | inl same ↦ absurd (false≢true (sym off ∙ same.0))
      | inr other ↦ omega (arith, other.1, c.places.ensures, c.next_counted.ensures.within)
    ] in
    let none : told true names (sent_all was.filled (drop place was.senders.now)) ≡ [] =
    ap (λ l. told true names (sent_all was.filled l)) (drop_of_length-le was.senders.now (omega (arith, c.places-place-end.ensures, c.loop-place-test.false))) in
    more_left names was is was.are is.are marked marked' place at none below (c.next_counted.ensures.some below)
    (c.loop-place.invariant.apart names marked marked' whole ∙ ap encoded_all (sym (c.next_counted.ensures.same names marked')))
