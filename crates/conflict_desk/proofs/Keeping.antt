-- What an open docket keeps.
use Rattle.std.proofs.Common.{◌≡◌, ◌≢◌, ℕ, ◌+◌, ◌<◌, ◌≤◌, List, [], ◌∷◌, ◌++◌, length, get_or, Bool, true, false, Some, None, slice_get, option_map, ◌⊎◌, inl, inr, ap, sym, refl, subst, ◌∙◌, length-append, arith}
use Rattle.std.proofs.Math.ListN.{set}
use Rattle.std.proofs.lemmas.Bool.{cases_order, eq-eqb, ne_eqb}
use Rattle.std.proofs.lemmas.List.{length-set}
use Rattle.std.proofs.lemmas.Option.{slice_get_within, slice_get-get_or}
use Rattle.conflict_desk.specs.Docket.{AreAscending, is_conflict}
use Rattle.conflict_desk.specs.Book.{Book, new_book, is_cancel, is_decided, is_cancelled, waits, front_visit, with_decision}
use Rattle.conflict_desk.specs.declared.decided.Standing.TheVariants as standing
use Rattle.conflict_desk.specs.Desk.{refusal_of}
use Rattle.conflict_desk.specs.declared.fault.DeskFault.TheVariants.{NotFront}
use Rattle.conflict_desk.specs.inside.Links.{Follows, AreLinks}
use Rattle.conflict_desk.specs.inside.Settling.{Tell, IsSettled, Settles}
use Rattle.conflict_desk.specs.inside.Kept.{IsKept}
use Rattle.conflict_desk.specs.declared.docket.Case.{Case}
use Rattle.conflict_desk.specs.declared.decided.Choice.{Choice}
use Rattle.conflict_desk.specs.declared.links.Link.{Link}
use Rattle.conflict_desk.proofs.Gets.{there_is, find_is, find_none}
use Rattle.conflict_desk.proofs.Places.{in_order}
use Rattle.conflict_desk.proofs.Chains.{decided_other, decided_now, decided_still, cancelled_before, cancelled_still, cancelled_now}
use Rattle.conflict_desk.proofs.Ways.{cancelled_at, at_case, cancelled_follows}
use Rattle.conflict_desk.proofs.Fronts.{tell_more}

-- ---- who waits

module _ (book : Book) (c : Case) where
  -- why a case doesn't wait
  pub why : waits book c ≡ false → (is_conflict c.outcome ≡ false) ⊎ ((is_decided book.decisions c.visit ≡ true) ⊎ (is_cancelled book c ≡ true))
  why none = grind arith

  pub no_wait : (is_conflict c.outcome ≡ false) ⊎ ((is_decided book.decisions c.visit ≡ true) ⊎ (is_cancelled book c ≡ true)) → waits book c ≡ false
  no_wait reason = grind arith

  pub it_waits : is_conflict c.outcome ≡ true → is_decided book.decisions c.visit ≡ false → is_cancelled book c ≡ false → waits book c ≡ true
  it_waits conflict undecided stays = grind arith

  pub waiting_parts : waits book c ≡ true → (is_conflict c.outcome ≡ true) × (is_decided book.decisions c.visit ≡ false) × (is_cancelled book c ≡ false)
  waiting_parts is = grind arith

  pub no_wait_where : (is_conflict c.outcome ≡ true → is_cancelled book c ≡ true) → waits book c ≡ false
  no_wait_where went = grind arith

pub no_wait_still : (book : Book) (visit : ℕ) (choice : Choice) (c : Case) → waits book c ≡ false → waits (with_decision visit choice book) c ≡ false
no_wait_still book visit choice c none = grind (arith, decided_still book.decisions visit choice c.visit, cancelled_still book visit choice c)

-- ---- the front

module _ (book : Book) (links : List Link) (flags : List Bool) (next : ℕ) (kept : IsKept book links flags next) where
  pub front_at : (items : List Case) (d : Case) → items ≡ book.cases → next < length items → Some (get_or items next d).visit ≡ front_visit book
  front_at items d same within =
      let at = ap (λ l. slice_get l next) (sym same) ∙ slice_get-get_or items next d within in
      sym (ap (option_map (λ case. case.visit)) (find_is (waits book) book.cases next (get_or items next d) at (kept.front _ at) kept.passed))

  pub front_none : (items : List Case) → items ≡ book.cases → length items ≤ next → None ≡ front_visit book
  front_none items same past =
      sym (ap (option_map (λ case. case.visit))
      (find_none (waits book) book.cases (λ j y here. kept.passed j y (omega (arith, slice_get_within book.cases j y here, ap length same, past)) here)))

-- a visit that isn't the front, and one that is
pub refused_front : (visit front : ℕ) (book : Book) → Some front ≡ front_visit book → front ≢ visit
    → refusal_of visit book ≡ Some (NotFront (Some front))
refused_front visit front book is other = rw (← is, ne_eqb front visit other) refl

pub accepted_front : (visit front : ℕ) (book : Book) → Some front ≡ front_visit book → front ≡ visit → refusal_of visit book ≡ None
accepted_front visit front book is same = rw (← is, eq-eqb front visit same) refl

-- ---- a new docket

pub opened_kept : (cases : List Case) (links : List Link) (before after : List Bool) (next : ℕ) → AreAscending cases → AreLinks cases links → length links ≡ length cases → length after ≡ length cases → next ≤ length cases
    → Settles cases links before 0 next after → IsKept (new_book cases) links after next
opened_kept cases links before after next up are links_count flags_count within settled =
    let s = settled (cancelled_at (new_book cases)) (cancelled_follows (new_book cases) links are 0 (λ k c le at. refl)) (λ k less. absurd (omega (arith, less))) in
    record {
      ascending = up;
      links_are = are;
      links_count = links_count;
      flags_count = flags_count;
      within = within;
      tell = s.tell;
      passed = λ k c less at. no_wait_where (new_book cases) c (λ conflict. sym (at_case (new_book cases) k c at) ∙ s.passed k c (omega arith) less at conflict);
      undecided = λ k c le at. refl;
      front = λ c at. let stop = s.stops c at in it_waits (new_book cases) c stop.0 refl (sym (at_case (new_book cases) next c at) ∙ stop.1);
      few = omega arith;
    }

-- ---- a decision

module _ (book : Book) (links : List Link) (flags : List Bool) (next : ℕ) (kept : IsKept book links flags next) (c : Case) (at : slice_get book.cases next ≡ Some c) (choice : Choice) where
  pub then_follows : Follows (next + 1) links (cancelled_at (with_decision c.visit choice book))
  then_follows = cancelled_follows (with_decision c.visit choice book) links kept.links_are (next + 1) (λ k d le here.
      decided_other book.decisions c.visit choice d.visit (λ same. omega (arith, same, in_order book.cases kept.ascending next k c d at here (omega (arith, le))))
      ∙ kept.undecided k d (omega (arith, le)) here)

  still_told : Tell (cancelled_at (with_decision c.visit choice book)) next flags
  still_told k less =
      let there = there_is book.cases k (omega (arith, less, kept.within)) in
      kept.tell k less
      ∙ at_case book k there.0 there.1
      ∙ sym (cancelled_before book c.visit choice there.0 (in_order book.cases kept.ascending k next there.0 c there.1 at less))
      ∙ sym (at_case (with_decision c.visit choice book) k there.0 there.1)

  pub then_tell : Tell (cancelled_at (with_decision c.visit choice book)) (next + 1) (set flags next (is_cancel choice))
  then_tell =
      let parts = waiting_parts book c (kept.front c at) in
      tell_more (cancelled_at (with_decision c.visit choice book)) flags next (is_cancel choice) still_told
      (omega (arith, slice_get_within book.cases next c at, kept.flags_count))
      (sym (at_case (with_decision c.visit choice book) next c at ∙ cancelled_now book c.visit choice c refl parts.1 parts.2))

  module _ (after : List Bool) (then : ℕ) (later : next + 1 ≤ then) (within : then ≤ length book.cases) (count : length after ≡ length book.cases)
      (s : IsSettled (cancelled_at (with_decision c.visit choice book)) book.cases (next + 1) then after) where
    then_passed : (k : ℕ) (d : Case) → k < then → slice_get book.cases k ≡ Some d → waits (with_decision c.visit choice book) d ≡ false
    then_passed k d less here =
        let new = with_decision c.visit choice book in
        let own = no_wait new c (inr (inl (decided_now book.decisions c.visit choice))) in
        let behind = λ (more : next < k). no_wait_where new d
        (λ conflict. sym (at_case new k d here) ∙ s.passed k d (omega (arith, more)) less here conflict) in
        grind (arith, cases_order k next, kept.passed k d, no_wait_still book c.visit choice d, own, behind, at, here)

    then_undecided : (k : ℕ) (d : Case) → then ≤ k → slice_get book.cases k ≡ Some d → is_decided (book.decisions ++ record { visit = c.visit; choice = choice } ∷ []) d.visit ≡ false
    then_undecided k d le here =
        decided_other book.decisions c.visit choice d.visit (λ same. omega (arith, same, in_order book.cases kept.ascending next k c d at here (omega (arith, le, later))))
        ∙ kept.undecided k d (omega (arith, le, later)) here

    pub decided_kept : IsKept (with_decision c.visit choice book) links after then
    decided_kept = record {
      ascending = kept.ascending;
      links_are = kept.links_are;
      links_count = kept.links_count;
      flags_count = count;
      within = within;
      tell = s.tell;
      passed = then_passed;
      undecided = then_undecided;
      front = λ d here. let stop = s.stops d here in
          it_waits (with_decision c.visit choice book) d stop.0 (then_undecided then d (omega arith) here) (sym (at_case (with_decision c.visit choice book) then d here) ∙ stop.1);
      few = omega (arith, kept.few, later, length-append book.decisions (record { visit = c.visit; choice = choice } ∷ []));
    }

-- ---- what is settled, of equal lists

pub settled_as : (cases shown : List Case) (links listed : List Link) (before after : List Bool) (from next : ℕ) → shown ≡ cases → listed ≡ links
    → Settles shown listed before from next after → Settles cases links before from next after
settled_as cases shown links listed before after from next same_cases same_links settled said follows tell =
    subst (λ cs. IsSettled said cs from next after) same_cases (settled said (subst (λ ls. Follows from ls said) (sym same_links) follows) tell)

module _ (book : Book) (links : List Link) (flags : List Bool) (next : ℕ) (kept : IsKept book links flags next) (choice : Choice) where
  decide_at : (c : Case) (written after : List Bool) (then : ℕ) → slice_get book.cases next ≡ Some c → written ≡ set flags next (is_cancel choice) → length after ≡ length written → next + 1 ≤ then → then ≤ length book.cases
      → Settles book.cases links written (next + 1) then after
      → IsKept (with_decision c.visit choice book) links after then
  decide_at c written after then at is count later within settled =
      let said = cancelled_at (with_decision c.visit choice book) in
      decided_kept book links flags next kept c at choice after then later within
      (count ∙ ap length is ∙ length-set flags next (is_cancel choice) ∙ kept.flags_count)
      (settled said (then_follows book links flags next kept c at choice) (subst (Tell said (next + 1)) (sym is) (then_tell book links flags next kept c at choice)))

  pub decide_kept : (items : List Case) (d : Case) (visit : ℕ) (written after : List Bool) (then : ℕ) → items ≡ book.cases → next < length items → (get_or items next d).visit ≡ visit
      → written ≡ set flags next (is_cancel choice) → length after ≡ length written → next + 1 ≤ then → then ≤ length book.cases
      → Settles book.cases links written (next + 1) then after
      → IsKept (with_decision visit choice book) links after then
  decide_kept items d visit written after then same there is written_is count later within settled =
      subst (λ v. IsKept (with_decision v choice book) links after then) is
      (decide_at (get_or items next d) written after then (ap (λ l. slice_get l next) (sym same) ∙ slice_get-get_or items next d there) written_is count later within settled)

-- ---- how a visit stands

module _ (book : Book) (links : List Link) (flags : List Bool) (next : ℕ) (kept : IsKept book links flags next) (place : ℕ) (c : Case) (at : slice_get book.cases place ≡ Some c) where
  pub cancelled_is_said : (b : Bool) → ((said : ℕ → Bool) → Follows next links said → Tell said next flags → b ≡ said place) → b ≡ is_cancelled book c
  cancelled_is_said b is = is (cancelled_at book) (cancelled_follows book links kept.links_are next kept.undecided) kept.tell ∙ at_case book place c at
