-- The first and the last places of numbers in a list, as far as a loop has come.
use Rattle.std.proofs.Common.{◌≡◌, ◌≢◌, ℕ, zero, suc, ◌+◌, ◌<◌, ◌≤◌, List, [], ◌∷◌, length, Some, slice_get, set, refl, sym, ◌∙◌, ap, inl, inr, arith}
use Rattle.std.proofs.Math.ListN.{replicate, length-set}
use Rattle.std.proofs.lemmas.Bool.{cases_eq, cases_lt}
use Rattle.std.proofs.lemmas.Option.{slice_get_within}
use Rattle.page_looks.specs.inside.Numbers.{IsAbsent}
use Rattle.page_looks.specs.inside.Ranks.{IsFirstAt, AreFirst, AreLast, StandsAlone}

pub set_same : {X : Type 0} (xs : List X) (i : ℕ) (y : X) → i < length xs → slice_get (set xs i y) i ≡ Some y
set_same [] i y less = absurd (omega (arith, less))
set_same (x ∷ xs) zero y less = refl
set_same (x ∷ xs) (suc i) y less = set_same xs i y (omega (arith, less))

pub set_other : {X : Type 0} (xs : List X) (i j : ℕ) (y : X) → j ≢ i → slice_get (set xs i y) j ≡ slice_get xs j
set_other [] i j y other = refl
set_other (x ∷ xs) zero zero y other = absurd (other refl)
set_other (x ∷ xs) zero (suc j) y other = refl
set_other (x ∷ xs) (suc i) zero y other = refl
set_other (x ∷ xs) (suc i) (suc j) y other = set_other xs i j y (λ same. other (ap suc same))

no_place : (count n k : ℕ) → slice_get (replicate count 0) n ≡ Some (suc k) → ⊥
no_place zero n k is = cc
no_place (suc c) zero k is =
    let same : 0 ≡ suc k = cc in
    omega (arith, same)
no_place (suc c) (suc n) k is = no_place c n k is

-- ---- the last ones

pub record LastSoFar (numbers places : List ℕ) (count i : ℕ) : Type 0 where
  pub many : length places ≡ count
  pub last : (n k : ℕ) → slice_get places n ≡ Some (suc k)
      → (slice_get numbers k ≡ Some n) × ((j : ℕ) → j < i → slice_get numbers j ≡ Some n → j ≤ k)
  pub all : (j n : ℕ) → j < i → slice_get numbers j ≡ Some n → (k : ℕ) × (slice_get places n ≡ Some (suc k))

pub last_none : (numbers places : List ℕ) (count : ℕ) → places ≡ replicate count 0 → length places ≡ count → LastSoFar numbers places count 0
last_none numbers places count is many = record {
  many = many;
  last = λ n k at. absurd (no_place count n k (rw is at at));
  all = λ j n less at. absurd (omega (arith, less));
}

pub last_more : (numbers places new : List ℕ) (count i x next step : ℕ) → LastSoFar numbers places count i → slice_get numbers i ≡ Some x → x < count
    → next ≡ i + 1 → new ≡ set places x next → step ≡ i + 1 → LastSoFar numbers new count step
last_more numbers places new count i x next step l at few more is on = record {
  many = ap length is ∙ length-set places x next ∙ l.many;
  last = λ n k there. elim (cases_eq n x) [
    | inl same ↦
        let own : slice_get new n ≡ Some next = ap (slice_get new) same ∙ ap (λ ps. slice_get ps x) is ∙ set_same places x next (omega (arith, few, l.many)) in
        let value : suc k ≡ next = cc in
        let place : k ≡ i = omega (arith, value, more) in
        (ap (slice_get numbers) place ∙ at ∙ ap Some (sym same), λ j less other. omega (arith, less, place, on))
    | inr other ↦
        let old : slice_get places n ≡ Some (suc k) = sym (set_other places x n next other) ∙ ap (λ ps. slice_get ps n) (sym is) ∙ there in (
          (l.last n k old).0,
          λ j less here. elim (cases_lt j i) [
            | inl before ↦ (l.last n k old).1 j before here
            | inr past ↦
                let last_one : j ≡ i = omega (arith, less, past, on) in
                let one : Some n ≡ Some x = sym here ∙ ap (slice_get numbers) last_one ∙ at in
                let same : n ≡ x = cc in
                absurd (other same)
          ],
        )
  ];
  all = λ j n less here. elim (cases_eq n x) [
    | inl same ↦
        let own : slice_get new n ≡ Some next = ap (slice_get new) same ∙ ap (λ ps. slice_get ps x) is ∙ set_same places x next (omega (arith, few, l.many)) in
        let value : next ≡ suc i = omega (arith, more) in
        (i, own ∙ ap Some value)
    | inr other ↦ elim (cases_lt j i) [
      | inl before ↦
          let (k, old) = l.all j n before here in
          (k, ap (λ ps. slice_get ps n) is ∙ set_other places x n next other ∙ old)
      | inr past ↦
          let last_one : j ≡ i = omega (arith, less, past, on) in
          let one : Some n ≡ Some x = sym here ∙ ap (slice_get numbers) last_one ∙ at in
          let same : n ≡ x = cc in
          absurd (other same)
    ]
  ];
}

pub last_all : (numbers places : List ℕ) (count i : ℕ) → LastSoFar numbers places count i → length numbers ≤ i → AreLast numbers places
last_all numbers places count i l done = record {
  last = λ n k at. ((l.last n k at).0, λ j here. (l.last n k at).1 j (omega (arith, done, slice_get_within numbers j n here)) here);
  all = λ j n here. l.all j n (omega (arith, done, slice_get_within numbers j n here)) here;
}

-- ---- the first ones

pub record FirstSoFar (numbers places : List ℕ) (count i : ℕ) : Type 0 where
  pub many : length places ≡ count
  pub first : (n k : ℕ) → slice_get places n ≡ Some (suc k)
      → (slice_get numbers k ≡ Some n) × ((j : ℕ) → length numbers ≤ j + i → slice_get numbers j ≡ Some n → k ≤ j)
  pub all : (j n : ℕ) → length numbers ≤ j + i → slice_get numbers j ≡ Some n → (k : ℕ) × (slice_get places n ≡ Some (suc k))

pub first_none : (numbers places : List ℕ) (count : ℕ) → places ≡ replicate count 0 → length places ≡ count → FirstSoFar numbers places count 0
first_none numbers places count is many = record {
  many = many;
  first = λ n k at. absurd (no_place count n k (rw is at at));
  all = λ j n less at. absurd (omega (arith, less, slice_get_within numbers j n at));
}

pub first_more : (numbers places new : List ℕ) (count i index x next step : ℕ) → FirstSoFar numbers places count i → slice_get numbers index ≡ Some x → x < count
    → index + 1 + i ≡ length numbers → next ≡ index + 1 → new ≡ set places x next → step ≡ i + 1 → FirstSoFar numbers new count step
first_more numbers places new count i index x next step l at few left more is on = record {
  many = ap length is ∙ length-set places x next ∙ l.many;
  first = λ n k there. elim (cases_eq n x) [
    | inl same ↦
        let own : slice_get new n ≡ Some next = ap (slice_get new) same ∙ ap (λ ps. slice_get ps x) is ∙ set_same places x next (omega (arith, few, l.many)) in
        let value : suc k ≡ next = cc in
        let place : k ≡ index = omega (arith, value, more) in
        (ap (slice_get numbers) place ∙ at ∙ ap Some (sym same), λ j less other. omega (arith, less, place, left, on))
    | inr other ↦
        let old : slice_get places n ≡ Some (suc k) = sym (set_other places x n next other) ∙ ap (λ ps. slice_get ps n) (sym is) ∙ there in (
          (l.first n k old).0,
          λ j less here. elim (cases_lt index j) [
            | inl behind ↦ (l.first n k old).1 j (omega (arith, behind, left)) here
            | inr up_to ↦
                let first_one : j ≡ index = omega (arith, less, up_to, left, on) in
                let one : Some n ≡ Some x = sym here ∙ ap (slice_get numbers) first_one ∙ at in
                let same : n ≡ x = cc in
                absurd (other same)
          ],
        )
  ];
  all = λ j n less here. elim (cases_eq n x) [
    | inl same ↦
        let own : slice_get new n ≡ Some next = ap (slice_get new) same ∙ ap (λ ps. slice_get ps x) is ∙ set_same places x next (omega (arith, few, l.many)) in
        let value : next ≡ suc index = omega (arith, more) in
        (index, own ∙ ap Some value)
    | inr other ↦ elim (cases_lt index j) [
      | inl behind ↦
          let (k, old) = l.all j n (omega (arith, behind, left)) here in
          (k, ap (λ ps. slice_get ps n) is ∙ set_other places x n next other ∙ old)
      | inr up_to ↦
          let first_one : j ≡ index = omega (arith, less, up_to, left, on) in
          let one : Some n ≡ Some x = sym here ∙ ap (slice_get numbers) first_one ∙ at in
          let same : n ≡ x = cc in
          absurd (other same)
    ]
  ];
}

pub first_all : (numbers places : List ℕ) (count i : ℕ) → FirstSoFar numbers places count i → length numbers ≤ i → AreFirst numbers places
first_all numbers places count i l done = record {
  first = λ n k at. ((l.first n k at).0, λ j here. (l.first n k at).1 j (omega (arith, done)) here);
  all = λ j n here. l.all j n (omega (arith, done)) here;
}

-- ---- alone

-- where the first and the last are not one, none stands alone
pub not_alone : (numbers firsts lasts : List ℕ) (n f l : ℕ) → AreFirst numbers firsts → AreLast numbers lasts → slice_get firsts n ≡ Some f
    → slice_get lasts n ≡ Some l → f ≢ l → (k : ℕ) → StandsAlone numbers n k → ⊥
not_alone numbers firsts lasts n f l first last at too apart k a =
    let (i, begins) = first.all k n a.here in
    let (j, ends) = last.all k n a.here in
    let one : i ≡ k = a.alone i (first.first n i begins).0 in
    let other : j ≡ k = a.alone j (last.last n j ends).0 in
    let low : f ≡ suc i = cc (at, begins) in
    let high : l ≡ suc j = cc (too, ends) in
    apart (omega (arith, one, other, low, high))

-- ---- the first of the look at a rank

pub none_first : (olds looks firsts : List ℕ) (rank look place : ℕ) → AreFirst looks firsts → slice_get olds rank ≡ Some look
    → slice_get firsts look ≡ Some place → place ≡ 0 → (n : ℕ) → slice_get olds rank ≡ Some n → IsAbsent looks n
none_first olds looks firsts rank look place first at there none n is j here =
    let (k, known) = first.all j n here in
    let one : n ≡ look = cc (is, at) in
    let own : suc k ≡ place = cc (ap (slice_get firsts) (sym one) ∙ known, there) in
    absurd (omega (arith, own, none))

pub some_first : (olds looks firsts : List ℕ) (rank look place k : ℕ) → AreFirst looks firsts → slice_get olds rank ≡ Some look
    → slice_get firsts look ≡ Some place → place ≡ suc k → (n : ℕ) × (slice_get olds rank ≡ Some n) × IsFirstAt looks n k
some_first olds looks firsts rank look place k first at there more = (look, at, first.first look k (there ∙ ap Some more))
