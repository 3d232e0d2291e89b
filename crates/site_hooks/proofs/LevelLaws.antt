-- The levels of one path more.
use Rattle.std.proofs.Common.{◌≡◌, ◌⊎◌, ℕ, suc, inl, inr, List, [], ◌∷◌, ◌++◌, length, get_or, sym, ◌∙◌, ap, subst, arith, add-zero}
use Rattle.std.specs.Prelude.{◌↔◌}
use Rattle.std.specs.List.{AllByRecursion}
use Rattle.std.proofs.lemmas.Bool.{cases_lt, cases_eq}
use Rattle.std.proofs.lemmas.List.{get_or_past, get_or_append_left, get_or-append-add, length-append}
use Rattle.xpath_child.specs.Path.{Step, IsStep}
use Rattle.site_hooks.specs.Levels.{HasStep, IsOfStepAt, IsOfEndAt, AreLevels, AddsNumber}
use Rattle.site_hooks.specs.declared.levels.Level.{Level}

module _ (paths : List (List Step)) (path : List Step) where
  -- what holds of the last path by its number, and of each other one as before, holds of each now
  by_number : (Is Was : ℕ → Type 0) (Of : List Step → Type 0) → ¬ (Of []) → ((number : ℕ) → Was number ↔ Of (get_or paths number []))
      → ((number : ℕ) → Is number ↔ (Was number ⊎ ((number ≡ length paths) × Of path))) → (number : ℕ) → (Is number ↔ Of (get_or (paths ++ path ∷ []) number []))
  by_number Is Was Of none were are number = elim (cases_lt number (length paths)) [
    | inl less ↦
        let same : get_or (paths ++ path ∷ []) number [] ≡ get_or paths number [] = get_or_append_left paths (path ∷ []) [] number less in (
          λ h. subst Of (sym same) (elim ((are number).0 h) [ inl was ↦ (were number).0 was | inr now ↦ absurd (omega (arith, less, now.0)) ]),
          λ h. (are number).1 (inl ((were number).1 (subst Of same h))),
        )
    | inr past ↦
        let was_none : ¬ (Was number) = λ was. none (subst Of (get_or_past paths number [] past) ((were number).0 was)) in
        elim (cases_eq number (length paths)) [
          | inl last ↦
              let same : get_or (paths ++ path ∷ []) number [] ≡ path = ap (λ n. get_or (paths ++ path ∷ []) n []) (last ∙ sym (add-zero (length paths))) ∙ get_or-append-add paths (path ∷ []) 0 [] in (
                λ h. subst Of (sym same) (elim ((are number).0 h) [ inl was ↦ absurd (was_none was) | inr now ↦ now.1 ]),
                λ h. (are number).1 (inr (last, subst Of same h)),
              )
          | inr other ↦
              let gone : get_or (paths ++ path ∷ []) number [] ≡ [] = get_or_past (paths ++ path ∷ []) number [] (omega (arith, past, other, length-append paths (path ∷ []))) in (
                λ h. absurd (elim ((are number).0 h) [ inl was ↦ was_none was | inr now ↦ other now.0 ]),
                λ h. absurd (none (subst Of gone h)),
              )
        ]
  ]

  pub added_levels : (old new : List Level) → AreLevels old paths → AddsNumber path (length paths) old new → AllByRecursion IsStep path → AreLevels new (paths ++ path ∷ [])
  added_levels old new are adds steps = record {
    each = λ number. elim (cases_lt number (length paths)) [
      | inl less ↦ subst (AllByRecursion IsStep) (sym (get_or_append_left paths (path ∷ []) [] number less)) (are.each number)
      | inr past ↦ elim (cases_eq number (length paths)) [
        | inl last ↦ subst (AllByRecursion IsStep) (sym (ap (λ n. get_or (paths ++ path ∷ []) n []) (last ∙ sym (add-zero (length paths))) ∙ get_or-append-add paths (path ∷ []) 0 [])) steps
        | inr other ↦ subst (AllByRecursion IsStep) (sym (get_or_past (paths ++ path ∷ []) number [] (omega (arith, past, other, length-append paths (path ∷ []))))) tt
      ]
    ];
    steps = λ at number text. by_number (IsOfStepAt new at text) (IsOfStepAt old at text) (λ p. HasStep p at text) (λ h. cc) (λ k. are.steps at k text) (λ k. adds.steps at k text) number;
    ends = λ at number. by_number (IsOfEndAt new at) (IsOfEndAt old at) (λ p. length p ≡ suc at) (λ h. omega (arith, h)) (λ k. are.ends at k) (λ k. adds.ends at k) number;
  }
