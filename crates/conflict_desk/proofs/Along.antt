-- What goes along with a cancelled visit.
use Rattle.std.proofs.Common.{◌≡◌, ◌≢◌, ◌≤◌, IfSome, subst, ℕ, suc, ◌+◌, ◌<◌, List, [], ◌∷◌, ◌++◌, length, map, filter, get_or, take, Bool, true, false, ◌||◌, ◌&&◌, ◌==◌, if◌then◌else◌, Option, Some, None, slice_get, option_and_then, ap, sym, refl, ◌∙◌, arith}
use Rattle.std.specs.List.{list_any, slice_index_or}
use Rattle.std.specs.Option.{option_map_or}
use Rattle.std.proofs.lemmas.List.{map-append, take_more}
use Rattle.std.proofs.lemmas.List.Elements.{filter-append}
use Rattle.std.proofs.lemmas.Option.{same_Some, get_or_from_slice_get, slice_get_within, slice_get-get_or}
use Rattle.std.proofs.lemmas.Bool.{eq-eqb, ne_eqb, or_left}
use Rattle.conflict_desk.specs.Docket.{parent_of}
use Rattle.conflict_desk.specs.Book.{Book, chain, was_cancelled, is_cancelled}
use Rattle.conflict_desk.specs.Below.{goes_with, CancelTakesAlong}
use Rattle.conflict_desk.specs.inside.Along.{goes_at}
use Rattle.conflict_desk.specs.inside.Links.{AreLinks}
use Rattle.conflict_desk.specs.inside.Settling.{Tell}
use Rattle.conflict_desk.specs.declared.docket.Case.{Case}
use Rattle.conflict_desk.specs.declared.decided.Choice.TheVariants.{Cancel}
use Rattle.conflict_desk.specs.declared.links.Link.{Link}
use Rattle.conflict_desk.proofs.Chains.{cancelled_is, went_more}

-- ---- tests of each element

crossed : (a b c d : Bool) → ((a || b) || (c || d)) ≡ ((a || c) || (b || d))
crossed true b c d = refl
crossed false true true d = refl
crossed false true false d = refl
crossed false false c d = refl

module _ {X : Type 0} where
  any_same : (p q : X → Bool) → ((x : X) → p x ≡ q x) → (xs : List X) → list_any p xs ≡ list_any q xs
  any_same p q same [] = refl
  any_same p q same (x ∷ xs) = ap (λ b. b || list_any p xs) (same x) ∙ ap (λ b. q x || b) (any_same p q same xs)

  any_either : (p q : X → Bool) (xs : List X) → list_any (λ x. p x || q x) xs ≡ (list_any p xs || list_any q xs)
  any_either p q [] = refl
  any_either p q (x ∷ xs) = ap (λ b. (p x || q x) || b) (any_either p q xs) ∙ crossed (p x) (q x) (list_any p xs) (list_any q xs)

alone_so : (b : Bool) → b ≡ ((b && true) || false)
alone_so true = refl
alone_so false = refl

and_true : (b : Bool) → (b && true) ≡ b
and_true true = refl
and_true false = refl

-- ---- the law

pub takes_along : (book : Book) (visit : ℕ) → CancelTakesAlong book visit
unfolding is_cancelled goes_with
takes_along book visit case =
    let above = chain book.cases (suc case.visit) case in
    any_same (λ a. was_cancelled (book.decisions ++ record { visit = visit; choice = Cancel } ∷ []) a.visit) (λ a. was_cancelled book.decisions a.visit || visit == a.visit)
    (λ a. went_more book.decisions visit Cancel a.visit ∙ ap (λ b. was_cancelled book.decisions a.visit || b) (and_true (visit == a.visit))) above
    ∙ any_either (λ a. was_cancelled book.decisions a.visit) (λ a. visit == a.visit) above

-- ---- one step up

-- a docket of which that visit alone was cancelled
abbrev alone : List Case → ℕ → Book
alone cases visit = record { cases = cases; decisions = record { visit = visit; choice = Cancel } ∷ [] }

alone_is : (cases : List Case) (visit : ℕ) (c : Case) → goes_with cases visit c ≡ is_cancelled (alone cases visit) c
unfolding goes_with is_cancelled
alone_is cases visit c =
    any_same (λ a. visit == a.visit) (λ a. was_cancelled (record { visit = visit; choice = Cancel } ∷ []) a.visit) (λ a. alone_so (visit == a.visit)) (chain cases (suc c.visit) c)

module _ (cases : List Case) (links : List Link) (are : AreLinks cases links) (visit : ℕ) where
  case_goes : (o : Option Case) → option_map_or (is_cancelled (alone cases visit)) o false ≡ option_map_or (goes_with cases visit) o false
  case_goes None = refl
  case_goes (Some c) = sym (alone_is cases visit c)

  parent_goes : (o : Option ℕ) → option_map_or (is_cancelled (alone cases visit)) (option_and_then (slice_get cases) o) false ≡ option_map_or (goes_at cases visit) o false
  parent_goes None = refl
  parent_goes (Some p) = case_goes (slice_get cases p)

  step : (c : Case) (o : Option ℕ) → parent_of cases c ≡ option_and_then (slice_get cases) o → goes_with cases visit c ≡ (visit == c.visit || option_map_or (goes_at cases visit) o false)
  step c o is =
      alone_is cases visit c
      ∙ cancelled_is (alone cases visit) c
      ∙ ap (λ b. b || option_map_or (is_cancelled (alone cases visit)) (parent_of cases c) false) (sym (alone_so (visit == c.visit)))
      ∙ ap (λ p. visit == c.visit || option_map_or (is_cancelled (alone cases visit)) p false) is
      ∙ ap (λ b. visit == c.visit || b) (parent_goes o)

  pub goes_by : (k : ℕ) (c : Case) (link : Link) → slice_get cases k ≡ Some c → slice_get links k ≡ Some link
      → goes_at cases visit k ≡ (visit == c.visit || option_map_or (goes_at cases visit) link.parent false)
  goes_by k c link at linked =
      let is = are k link linked in
      let same = same_Some is.case c (sym is.at ∙ at) in
      ap (λ o. option_map_or (goes_with cases visit) o false) at ∙ step c link.parent (ap (parent_of cases) (sym same) ∙ is.parent)

some_within : (n m : ℕ) (o : Option ℕ) → n ≤ m → IfSome o (λ p. p < n) → IfSome o (λ p. p < m)
some_within n m None more within = tt
some_within n m (Some p) more within = omega arith

-- the parent that a link leads to is the case's
pub parent_linked : (cases : List Case) (links : List Link) → AreLinks cases links → (place : ℕ) (d : Link) (case : Case) → place < length links → slice_get cases place ≡ Some case
    → option_and_then (slice_get cases) (get_or links place d).parent ≡ parent_of cases case
parent_linked cases links are place d case within at =
    let is = are place (get_or links place d) (slice_get-get_or links place d within) in
    sym (ap (parent_of cases) (sym (same_Some is.case case (sym is.at ∙ at))) ∙ is.parent)

-- what marks say of a parent before
pub marked_so : (said : ℕ → Bool) (marks : List Bool) (k : ℕ) (o : Option ℕ) → ((p : ℕ) → o ≡ Some p → p < k) → Tell said k marks
    → option_map_or (λ p. slice_index_or marks p false) o false ≡ option_map_or said o false
marked_so said marks k None before tell = refl
marked_so said marks k (Some p) before tell = tell p (before p refl)

module _ (cases : List Case) (links : List Link) (are : AreLinks cases links) (visit place : ℕ) (d : Link) (within : place < length links) where
  linked : slice_get links place ≡ Some (get_or links place d)
  linked = slice_get-get_or links place d within

  pub parent_within : (marks : List Bool) → place < length marks → IfSome (get_or links place d).parent (λ p. p < length marks)
  parent_within marks less = some_within place (length marks) (get_or links place d).parent (omega arith) (are place (get_or links place d) linked).back.0

  parent_before : (p : ℕ) → (get_or links place d).parent ≡ Some p → p < place
  parent_before p is = subst (λ o. IfSome o (λ p. p < place)) is (are place (get_or links place d) linked).back.0

  module _ (item : Case) (within_cases : place < length cases) where
    goes : goes_at cases visit place ≡ (visit == (get_or cases place item).visit || option_map_or (goes_at cases visit) (get_or links place d).parent false)
    goes = goes_by cases links are visit place (get_or cases place item) (get_or links place d) (slice_get-get_or cases place item within_cases) linked

    pub goes_itself : (get_or cases place item).visit ≡ visit → ((get_or cases place item).visit == visit) ≡ goes_at cases visit place
    goes_itself same = eq-eqb _ _ same ∙ sym (goes ∙ or_left _ _ (eq-eqb _ _ (sym same)))

    pub goes_by_parent : (marks : List Bool) (b : Bool) → (get_or cases place item).visit ≢ visit → b ≡ option_map_or (λ p. slice_index_or marks p false) (get_or links place d).parent false
        → Tell (goes_at cases visit) place marks → b ≡ goes_at cases visit place
    goes_by_parent marks b other is tell =
        is
        ∙ marked_so (goes_at cases visit) marks place (get_or links place d).parent parent_before tell
        ∙ sym (goes ∙ ap (λ own. own || option_map_or (goes_at cases visit) (get_or links place d).parent false) (ne_eqb _ _ (λ same. other (sym same))))

-- ---- the places

module _ (passes : Case → Bool) (cases : List Case) (place : ℕ) (c : Case) (at : slice_get cases place ≡ Some c) where
  one_here : (b : Bool) → passes c ≡ b → map (slice_get cases) (if b then place ∷ [] else []) ≡ map Some (filter passes (c ∷ []))
  one_here true is = rw is (ap (λ o. o ∷ []) at)
  one_here false is = rw is refl

  here : take (place + 1) cases ≡ take place cases ++ c ∷ []
  here = take_more cases place c (slice_get_within cases place c at) ∙ ap (λ x. take place cases ++ x ∷ []) (get_or_from_slice_get cases place c c at)

  pub one_more : (places new : List ℕ) (b : Bool) → b ≡ passes c
      → map (slice_get cases) places ≡ map Some (filter passes (take place cases))
      → new ≡ places ++ (if b then place ∷ [] else []) → map (slice_get cases) new ≡ map Some (filter passes (take (place + 1) cases))
  one_more places new b is so_far grown =
      ap (map (slice_get cases)) grown
      ∙ map-append (slice_get cases) places (if b then place ∷ [] else [])
      ∙ ap (λ front. front ++ map (slice_get cases) (if b then place ∷ [] else [])) so_far
      ∙ ap (λ one. map Some (filter passes (take place cases)) ++ one) (one_here b (sym is))
      ∙ sym (map-append Some (filter passes (take place cases)) (filter passes (c ∷ [])))
      ∙ ap (map Some) (sym (filter-append passes (take place cases) (c ∷ [])))
      ∙ ap (λ all. map Some (filter passes all)) (sym here)
