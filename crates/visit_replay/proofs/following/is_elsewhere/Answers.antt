use Rattle.std.proofs.Common.{◌∙◌, ◌<◌, Result, Ok, Err, Some, sym, ap, subst, arith}
use Rattle.std.specs.Prelude.{OnOk, IfOk}
use Rattle.std.specs.BTreeMap.{get}
use Rattle.std.specs.Ordering.{nat_cmp}
use Rattle.std.proofs.lemmas.Option.{slice_get-get_or}
use Rattle.visit_replay.specs.Moved.{is_moved}
use Rattle.visit_replay.specs.inside.Families.{parent_place}
use Rattle.visit_replay.specs.inside.Moves.{IsRight}
use Rattle.visit_replay.proofs.Families.{known_set, parent_within, elsewhere_some, elsewhere_none}
use Rattle.visit_replay.proofs.Places.{some_same}
use Rattle.visit_replay.proofs.following.is_elsewhere.Goals as goal

if_ok : {A E : Type 0} (r : Result A E) (P : Type 0) (Q : Type 0) → OnOk r P → (P → Q) → OnOk r Q
if_ok (Ok a) P Q p q = q p
if_ok (Err e) P Q p q = tt

ok_value : {A E : Type 0} (r : Result A E) (P Q : A → Type 0) → IfOk r P → ((a : A) → P a → Q a) → IfOk r Q
ok_value (Ok a) P Q p q = q a p
ok_value (Err e) P Q p q = tt

pub returns-in-Some-clause-known : goal.returns-in-Some-clause-known
returns-in-Some-clause-known c =
    let place = c.in-Some.place in
    let visits = c.args.visits.now in
    let outcomes = c.args.outcomes.now in
    let below : place < c.args.k = parent_within (get nat_cmp c.args.places.now) c.index-visits-k.result place c.args.k c.requires.within (sym c.parent_of.ensures ∙ c.in-Some.is) in
    let v_at = slice_get-get_or visits place c.index-visits-place.result (omega (arith, below, c.requires.there.0)) ∙ ap Some (sym c.index-visits-place.is) in
    let o_at = slice_get-get_or outcomes place c.index-outcomes-place.result (omega (arith, below, c.requires.there.1)) ∙ ap Some (sym c.index-outcomes-place.is) in
    if_ok c.tell.result _ _ c.tell.ensures.right (λ right. known_set c.args.finding.now visits outcomes c.args.k place c.args.asked.now c.tell.new.self below c.requires.known (λ v o v_is o_is.
    subst (λ u. IsRight c.args.finding.now u o c.tell.new.self) (some_same c.index-visits-place.result v (sym v_at ∙ v_is)) (subst (λ u. IsRight c.args.finding.now c.index-visits-place.result u c.tell.new.self) (some_same c.index-outcomes-place.result o (sym o_at ∙ o_is)) right)))

pub returns-in-Some-clause-answer : goal.returns-in-Some-clause-answer
returns-in-Some-clause-answer c =
    let place = c.in-Some.place in
    let visits = c.args.visits.now in
    let outcomes = c.args.outcomes.now in
    let visit = c.index-visits-k.result in
    let is = sym c.parent_of.ensures ∙ c.in-Some.is in
    let below : place < c.args.k = parent_within (get nat_cmp c.args.places.now) visit place c.args.k c.requires.within is in
    let v_at = slice_get-get_or visits place c.index-visits-place.result (omega (arith, below, c.requires.there.0)) ∙ ap Some (sym c.index-visits-place.is) in
    let o_at = slice_get-get_or outcomes place c.index-outcomes-place.result (omega (arith, below, c.requires.there.1)) ∙ ap Some (sym c.index-outcomes-place.is) in
    let at = slice_get-get_or visits c.args.k visit c.requires.there.0 ∙ ap Some (sym c.index-visits-k.is) in
    ok_value c.tell.result _ _ c.tell.ensures.answer (λ answer told before other stands other_at.
    let same = some_same visit other (sym at ∙ other_at) in
    elsewhere_some c.args.finding.now visits outcomes (get nat_cmp c.args.places.now) before stands other place c.index-visits-place.result c.index-outcomes-place.result answer
    (ap (parent_place (get nat_cmp c.args.places.now)) (sym same) ∙ is) v_at o_at (told ∙ ap (λ u. is_moved c.args.finding.now c.index-visits-place.result c.index-outcomes-place.result u.from) same))

pub returns-in-None-clause-answer : goal.returns-in-None-clause-answer
returns-in-None-clause-answer c = λ before other stands other_at.
    let visit = c.index-visits-k.result in
    let at = slice_get-get_or c.args.visits.now c.args.k visit c.requires.there.0 ∙ ap Some (sym c.index-visits-k.is) in
    let same = some_same visit other (sym at ∙ other_at) in
    elsewhere_none c.args.finding.now c.args.visits.now c.args.outcomes.now (get nat_cmp c.args.places.now) before stands other
    (ap (parent_place (get nat_cmp c.args.places.now)) (sym same) ∙ sym c.parent_of.ensures ∙ c.in-None.is)
