-- Chains of parents, and what goes with a cancelled visit.
use Rattle.std.proofs.Common.{◌≡◌, ◌≢◌, ℕ, zero, suc, ◌<◌, List, [], ◌∷◌, ◌++◌, true, false, ◌||◌, ◌&&◌, ◌==◌, Option, Some, None, inl, inr, ap, sym, refl, ◌∙◌, arith}
use Rattle.std.specs.List.{list_any}
use Rattle.std.specs.Option.{option_map_or}
use Rattle.std.proofs.lemmas.Bool.{eq-eqb, ne_eqb, or_cases, or_parts, or_left, or_right, and_left, false≢true}
use Rattle.std.proofs.Math.Bool.{or-false}
use Rattle.std.proofs.lemmas.List.Folds.{list_any-append}
use Rattle.conflict_desk.specs.Docket.{parent_of}
use Rattle.conflict_desk.specs.Book.{Book, chain, is_cancel, is_decided, was_cancelled, is_cancelled, with_decision}
use Rattle.conflict_desk.specs.Laws.{IsOnChain, itself, above, IsBelowCancelled}
use Rattle.conflict_desk.specs.declared.docket.Case.{Case}
use Rattle.conflict_desk.specs.declared.decided.Choice.{Choice}
use Rattle.conflict_desk.specs.declared.decided.Decided.{Decided}
use Rattle.conflict_desk.proofs.Places.{parent_is}

-- ---- a chain is whole

rest_enough : (cases : List Case) (c : Case) (n m : ℕ) (o : Option Case) → parent_of cases c ≡ o → ((p : Case) → p.visit < c.visit → chain cases n p ≡ chain cases m p) → option_map_or (chain cases n) o [] ≡ option_map_or (chain cases m) o []
rest_enough cases c n m None is rest = refl
rest_enough cases c n m (Some p) is rest = rest p (parent_is cases c p is).1

pub chain_enough : (cases : List Case) (n m : ℕ) (c : Case) → c.visit < n → c.visit < m → chain cases n c ≡ chain cases m c
chain_enough cases zero m c less more = absurd (omega (arith, less))
chain_enough cases (suc n) zero c less more = absurd (omega (arith, more))
chain_enough cases (suc n) (suc m) c less more =
    ap (λ l. c ∷ l) (rest_enough cases c n m (parent_of cases c) refl (λ p below. chain_enough cases n m p (omega (arith, below, less)) (omega (arith, below, more))))

module _ (book : Book) where
  rest_is : (c : Case) (o : Option Case) → parent_of book.cases c ≡ o → list_any (λ a. was_cancelled book.decisions a.visit) (option_map_or (chain book.cases c.visit) o []) ≡ option_map_or (is_cancelled book) o false
  unfolding is_cancelled
  rest_is c None is = refl
  rest_is c (Some p) is = ap (list_any (λ a. was_cancelled book.decisions a.visit)) (chain_enough book.cases c.visit (suc p.visit) p (parent_is book.cases c p is).1 (omega arith))

  -- it was cancelled itself, or its parent goes
  pub cancelled_is : (c : Case) → is_cancelled book c ≡ (was_cancelled book.decisions c.visit || option_map_or (is_cancelled book) (parent_of book.cases c) false)
  unfolding is_cancelled
  cancelled_is c = ap (λ b. was_cancelled book.decisions c.visit || b) (rest_is c (parent_of book.cases c) refl)

-- ---- the chain of parents in other words

module _ (book : Book) where
  parent_cancelled : (c : Case) (o : Option Case) → parent_of book.cases c ≡ o → option_map_or (is_cancelled book) o false ≡ true → ((p : Case) → p.visit < c.visit → is_cancelled book p ≡ true → IsBelowCancelled book p) → IsBelowCancelled book c
  parent_cancelled c None is went rest = absurd (false≢true went)
  parent_cancelled c (Some p) is went rest = let up = rest p (parent_is book.cases c p is).1 went in (up.0, above c p is up.1, up.2)

  below_by : (n : ℕ) (c : Case) → c.visit < n → is_cancelled book c ≡ true → IsBelowCancelled book c
  below_by zero c less went = absurd (omega (arith, less))
  below_by (suc n) c less went = elim (or_cases _ _ (sym (cancelled_is book c) ∙ went)) [
    | inl own ↦ (c.visit, itself c refl, own)
    | inr up ↦ parent_cancelled c (parent_of book.cases c) refl up (λ p below parent_went. below_by n p (omega (arith, below, less)) parent_went)
  ]

  pub below_cancelled : (c : Case) → is_cancelled book c ≡ true → IsBelowCancelled book c
  below_cancelled c went = below_by (suc c.visit) c (omega arith) went

  from_chain : (visit : ℕ) → was_cancelled book.decisions visit ≡ true → (c : Case) → IsOnChain book.cases visit c → is_cancelled book c ≡ true
  from_chain visit went c (itself _ is) = cancelled_is book c ∙ or_left _ _ (ap (was_cancelled book.decisions) is ∙ went)
  from_chain visit went c (above _ p is up) = cancelled_is book c ∙ or_right _ _ (ap (λ o. option_map_or (is_cancelled book) o false) is ∙ from_chain visit went p up)

  pub cancelled_below : (c : Case) → IsBelowCancelled book c → is_cancelled book c ≡ true
  cancelled_below c below = from_chain below.0 below.2 c below.1

-- ---- one decision more

pub undecided_stays : (decisions : List Decided) (visit : ℕ) → is_decided decisions visit ≡ false → was_cancelled decisions visit ≡ false
undecided_stays [] visit none = refl
undecided_stays (d ∷ decisions) visit none = grind (arith, undecided_stays decisions visit)

module _ (decisions : List Decided) (visit : ℕ) (choice : Choice) where
  pub decided_more : (other : ℕ) → is_decided (decisions ++ record { visit = visit; choice = choice } ∷ []) other ≡ (is_decided decisions other || visit == other)
  decided_more other = list_any-append (λ d. d.visit == other) decisions (record { visit = visit; choice = choice } ∷ []) ∙ ap (λ b. is_decided decisions other || b) (or-false _)

  pub decided_other : (other : ℕ) → visit ≢ other → is_decided (decisions ++ record { visit = visit; choice = choice } ∷ []) other ≡ is_decided decisions other
  decided_other other differ = decided_more other ∙ ap (λ b. is_decided decisions other || b) (ne_eqb _ _ differ) ∙ or-false _

  pub decided_now : is_decided (decisions ++ record { visit = visit; choice = choice } ∷ []) visit ≡ true
  decided_now = decided_more visit ∙ or_right _ _ (eq-eqb visit visit refl)

  pub decided_still : (other : ℕ) → is_decided decisions other ≡ true → is_decided (decisions ++ record { visit = visit; choice = choice } ∷ []) other ≡ true
  decided_still other was = decided_more other ∙ or_left _ _ was

  pub went_more : (other : ℕ) → was_cancelled (decisions ++ record { visit = visit; choice = choice } ∷ []) other ≡ (was_cancelled decisions other || (visit == other && is_cancel choice))
  went_more other = list_any-append (λ d. d.visit == other && is_cancel d.choice) decisions (record { visit = visit; choice = choice } ∷ []) ∙ ap (λ b. was_cancelled decisions other || b) (or-false _)

  pub went_other : (other : ℕ) → visit ≢ other → was_cancelled (decisions ++ record { visit = visit; choice = choice } ∷ []) other ≡ was_cancelled decisions other
  went_other other differ = went_more other ∙ ap (λ b. was_cancelled decisions other || b) (and_left _ _ (ne_eqb _ _ differ)) ∙ or-false _

  pub went_now : was_cancelled decisions visit ≡ false → was_cancelled (decisions ++ record { visit = visit; choice = choice } ∷ []) visit ≡ is_cancel choice
  went_now none = went_more visit ∙ ap (λ b. b || (visit == visit && is_cancel choice)) none ∙ ap (λ b. b && is_cancel choice) (eq-eqb visit visit refl)

  pub went_still : (other : ℕ) → was_cancelled decisions other ≡ true → was_cancelled (decisions ++ record { visit = visit; choice = choice } ∷ []) other ≡ true
  went_still other was = went_more other ∙ or_left _ _ was

module _ (book : Book) (visit : ℕ) (choice : Choice) where
  parent_before : (c : Case) (o : Option Case) → parent_of book.cases c ≡ o → ((p : Case) → p.visit < c.visit → is_cancelled (with_decision visit choice book) p ≡ is_cancelled book p) → option_map_or (is_cancelled (with_decision visit choice book)) o false ≡ option_map_or (is_cancelled book) o false
  parent_before c None is rest = refl
  parent_before c (Some p) is rest = rest p (parent_is book.cases c p is).1

  before_by : (n : ℕ) (c : Case) → c.visit < n → c.visit < visit → is_cancelled (with_decision visit choice book) c ≡ is_cancelled book c
  before_by zero c less below = absurd (omega (arith, less))
  before_by (suc n) c less below =
      cancelled_is (with_decision visit choice book) c
      ∙ ap (λ b. b || option_map_or (is_cancelled (with_decision visit choice book)) (parent_of book.cases c) false) (went_other book.decisions visit choice c.visit (λ same. omega (arith, same, below)))
      ∙ ap (λ b. was_cancelled book.decisions c.visit || b) (parent_before c (parent_of book.cases c) refl (λ p less_p. before_by n p (omega (arith, less_p, less)) (omega (arith, less_p, below))))
      ∙ sym (cancelled_is book c)

  -- a decision changes nothing of the visits before it
  pub cancelled_before : (c : Case) → c.visit < visit → is_cancelled (with_decision visit choice book) c ≡ is_cancelled book c
  cancelled_before c below = before_by (suc c.visit) c (omega arith) below

  -- and what is cancelled stays so
  chain_still : (above_it : ℕ) (c : Case) → was_cancelled book.decisions above_it ≡ true → IsOnChain book.cases above_it c → is_cancelled (with_decision visit choice book) c ≡ true
  chain_still above_it c went up = cancelled_below (with_decision visit choice book) c (above_it, up, went_still book.decisions visit choice above_it went)

  pub cancelled_still : (c : Case) → is_cancelled book c ≡ true → is_cancelled (with_decision visit choice book) c ≡ true
  cancelled_still c went = let below = below_cancelled book c went in chain_still below.0 c below.2 below.1

  -- the visit itself goes with the choice, where nothing took it before
  pub cancelled_now : (c : Case) → c.visit ≡ visit → is_decided book.decisions visit ≡ false → is_cancelled book c ≡ false → is_cancelled (with_decision visit choice book) c ≡ is_cancel choice
  cancelled_now c is none stays =
      let up : (was_cancelled book.decisions c.visit ≡ false) × (option_map_or (is_cancelled book) (parent_of book.cases c) false ≡ false) = or_parts _ _ (sym (cancelled_is book c) ∙ stays) in
      cancelled_is (with_decision visit choice book) c
      ∙ ap (λ b. was_cancelled (book.decisions ++ record { visit = visit; choice = choice } ∷ []) c.visit || b)
      (parent_before c (parent_of book.cases c) refl (λ p less. cancelled_before p (omega (arith, less, is))) ∙ up.1)
      ∙ or-false _
      ∙ ap (was_cancelled (book.decisions ++ record { visit = visit; choice = choice } ∷ [])) is
      ∙ went_now book.decisions visit choice (undecided_stays book.decisions visit none)
