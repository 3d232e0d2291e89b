-- Where a case stands, by its visit's number.
use Rattle.std.proofs.Common.{◌≡◌, ◌≢◌, ℕ, ◌<◌, List, length, map, get_or, true, false, ◌==◌, Some, None, slice_get, option_map, nat_lt, inl, inr, ap, sym, ◌∙◌, arith}
use Rattle.std.specs.List.Sorted.{IsNonDecreasingBy, IsPartitionPoint}
use Rattle.std.proofs.lemmas.Bool.{cases_lt, cases_order, eq-eqb, eqb-true, ne_eqb, ltb-true, ltb-false}
use Rattle.std.proofs.lemmas.Bool.Decides.{nat_tests}
use Rattle.std.proofs.lemmas.List.Kept.{AllPairs-from_increasing}
use Rattle.std.proofs.lemmas.List.{length-map}
use Rattle.std.proofs.lemmas.Option.{get_or_from_slice_get, slice_get-get_or, slice_get-map, slice_get_within}
use Rattle.conflict_desk.specs.Docket.{AreAscending, case_of_visit, parent_of}
use Rattle.conflict_desk.specs.declared.docket.Case.{Case}
use Rattle.conflict_desk.proofs.Gets.{find_passes, find_is, find_none}

-- numbers ascend with the places
pub in_order : (cases : List Case) → AreAscending cases → (i j : ℕ) (c d : Case) → slice_get cases i ≡ Some c → slice_get cases j ≡ Some d → i < j → c.visit < d.visit
in_order cases up i j c d at_i at_j less =
    let numbers = map (λ (case : Case). case.visit) cases in
    let i_is : get_or numbers i 0 ≡ c.visit = get_or_from_slice_get numbers i c.visit 0 (slice_get-map _ cases i ∙ ap (option_map (λ case. case.visit)) at_i) in
    let j_is : get_or numbers j 0 ≡ d.visit = get_or_from_slice_get numbers j d.visit 0 (slice_get-map _ cases j ∙ ap (option_map (λ case. case.visit)) at_j) in
    let within : j < length numbers = omega (arith, slice_get_within cases j d at_j, length-map cases (λ (case : Case). case.visit)) in
    omega (arith, AllPairs-from_increasing numbers up i j 0 less within, i_is, j_is)

pub before_it : (cases : List Case) → AreAscending cases → (i j : ℕ) (c d : Case) → slice_get cases i ≡ Some c → slice_get cases j ≡ Some d → c.visit < d.visit → i < j
before_it cases up i j c d at_i at_j less = grind (arith, cases_order i j, in_order cases up j i d c at_j at_i)

pub case_at : (cases : List Case) → AreAscending cases → (visit k : ℕ) (c : Case) → slice_get cases k ≡ Some c → c.visit ≡ visit → case_of_visit cases visit ≡ Some c
case_at cases up visit k c at is =
    find_is (λ case. case.visit == visit) cases k c at (eq-eqb _ _ is)
    (λ j d less here. ne_eqb _ _ (λ same. omega (arith, same, is, in_order cases up j k d c here at less)))

pub is_of : (cases : List Case) (visit : ℕ) (c : Case) → case_of_visit cases visit ≡ Some c → c.visit ≡ visit
is_of cases visit c found = eqb-true _ _ (find_passes (λ case. case.visit == visit) cases c found)

pub non_decreasing : (cases : List Case) → AreAscending cases → IsNonDecreasingBy (λ case. case.visit) cases
non_decreasing cases up i j d le within =
    grind (arith, cases_lt i j, in_order cases up i j (get_or cases i d) (get_or cases j d), slice_get-get_or cases i d, slice_get-get_or cases j d)

pub not_there : (cases : List Case) (visit i : ℕ) → AreAscending cases → IsPartitionPoint (λ case. nat_lt case.visit visit ≡ true) (λ case. nat_lt case.visit visit ≡ false) cases i → (i < length cases → (d : Case) → (get_or cases i d).visit ≢ visit) → case_of_visit cases visit ≡ None
not_there cases visit i up point other = find_none (λ case. case.visit == visit) cases (λ k c at. ne_eqb _ _ (λ same.
    let within = slice_get_within cases k c at in
    let is = ap (λ (case : Case). case.visit) (get_or_from_slice_get cases k c c at) ∙ same in
    elim (cases_order k i) [
      | inl here ↦ other (omega (arith, here, within)) c (ap (λ j. (get_or cases j c).visit) (sym here) ∙ is)
      | inr apart ↦ elim apart [
        | inl before ↦ omega (arith, is, ltb-true _ _ (point.0 k c (omega arith) before))
        | inr after ↦ omega (arith, same, in_order cases up i k (get_or cases i c) c (slice_get-get_or cases i c (omega (arith, after, within))) at after, ltb-false _ _ (point.1 i c (omega arith) (omega (arith, after, within))))
      ]
    ]))

pub parent_is : (cases : List Case) (c p : Case) → parent_of cases c ≡ Some p → (p.visit ≡ c.parent) × (p.visit < c.visit)
parent_is cases c p is = grind (arith, nat_tests, is_of cases c.parent p)
