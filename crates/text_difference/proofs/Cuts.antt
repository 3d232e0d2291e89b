-- Where no word is cut no character is.
use Rattle.std.proofs.Common.{◌≡◌, ℕ, ◌+◌, ◌-◌, ◌<◌, ◌≤◌, ◌⊎◌, inl, inr, List, length, get_or, Bool, true, false, ◌||◌, ◌==◌, sym, subst, ◌∙◌, refl, arith, zero, suc, nat_le}
use Rattle.std.specs.Str.{IsUtf8, IsCharBoundary}
use Rattle.std.proofs.lemmas.Str.{IsCharBoundary-start, IsCharBoundary-end, IsCharBoundary-before_ascii, IsCharBoundary-after_ascii}
use Rattle.std.proofs.lemmas.Bool.{eqb-true, leb-true, or_cases, cases_order, true≢false}
use Rattle.std.proofs.lemmas.Bool.Decides.{nat_tests}
use Rattle.text_difference.specs.Difference.{parts_words, is_edge, is_front_edge, is_end_edge}

blank_is_ascii : (c : ℕ) → parts_words c ≡ true → c < 128
blank_is_ascii c is = grind (arith, nat_tests)

either_of_two : (text : List ℕ) (place : ℕ) → (place == 0 || nat_le (length text) place) ≡ true
    → (place ≡ 0) ⊎ (length text ≤ place)
either_of_two text place is =
    elim (or_cases _ _ is) [ inl first ↦ inl (eqb-true place 0 first) | inr last ↦ inr (leb-true _ _ last) ]

first_or_not : (place : ℕ) → (place ≡ 0) ⊎ ((0 < place) × (place - 1 + 1 ≡ place))
first_or_not zero = inl refl
first_or_not (suc n) = inr (omega arith, omega arith)

-- at the end, or before it
by_order : (text : List ℕ) (place : ℕ) → place ≤ length text → (place < length text → IsCharBoundary text place)
    → IsCharBoundary text place
by_order text place within before =
    elim (cases_order place (length text)) [
      | inl last ↦ subst (λ p. IsCharBoundary text p) (sym last) (IsCharBoundary-end text)
      | inr (inl here) ↦ before here
      | inr (inr past) ↦ absurd (omega arith)
    ]

at_start : (text : List ℕ) (place : ℕ) → IsUtf8 text → place ≡ 0 → IsCharBoundary text place
at_start text place utf8 none = subst (λ p. IsCharBoundary text p) (sym none) (IsCharBoundary-start text utf8)

behind_a_blank : (text : List ℕ) (place : ℕ) → IsUtf8 text → place < length text
    → parts_words (get_or text (place - 1) 0) ≡ true → IsCharBoundary text place
behind_a_blank text place utf8 here blank =
    elim (first_or_not place) [
      | inl none ↦ at_start text place utf8 none
      | inr some ↦ subst (λ p. IsCharBoundary text p) some.1
          (IsCharBoundary-after_ascii text (place - 1) utf8 (omega arith) (blank_is_ascii _ blank))
    ]

at_an_end : (text : List ℕ) (place : ℕ) → IsUtf8 text → place ≤ length text
    → (place == 0 || nat_le (length text) place) ≡ true → IsCharBoundary text place
at_an_end text place utf8 within is =
    elim (either_of_two text place is) [
      | inl none ↦ at_start text place utf8 none
      | inr past ↦ by_order text place within (λ here. absurd (omega arith))
    ]

pub between_characters : (text : List ℕ) (place : ℕ) → IsUtf8 text → place ≤ length text → is_edge text place ≡ true
    → IsCharBoundary text place
unfolding is_edge
between_characters text place utf8 within edge =
    elim (or_cases _ _ edge) [
      | inr behind ↦ by_order text place within (λ here. IsCharBoundary-before_ascii text place here (blank_is_ascii _ behind))
      | inl others ↦ elim (or_cases _ _ others) [
        | inr before ↦ by_order text place within (λ here. behind_a_blank text place utf8 here before)
        | inl ends ↦ at_an_end text place utf8 within ends
      ]
    ]

-- ---- there is an edge to go back to

pub front_at_start : (old new : List ℕ) → is_front_edge old new 0 ≡ true
unfolding is_edge
front_at_start old new = refl

edge_at_end : (text : List ℕ) → is_edge text (length text - 0) ≡ true
unfolding is_edge
edge_at_end text = grind (arith, nat_tests)

pub end_at_end : (old new : List ℕ) → is_end_edge old new 0 ≡ true
end_at_end old new = rw (edge_at_end old, edge_at_end new) refl

pub some_behind : (passes : ℕ → Bool) (count : ℕ) → passes 0 ≡ true → passes count ≡ false → 1 ≤ count
some_behind passes zero starts here = absurd (true≢false (sym starts ∙ here))
some_behind passes (suc n) starts here = omega arith
