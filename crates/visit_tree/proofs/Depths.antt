-- How deep visits stand, one after another.
use Rattle.std.proofs.Common.{◌≡◌, ℕ, ◌+◌, ◌<◌, ◌≤◌, inl, inr, List, [], ◌∷◌, ◌++◌, length, get_or, Option, refl, sym, ap, ◌∙◌, arith}
use Rattle.std.specs.Option.{option_map_or}
use Rattle.std.proofs.lemmas.Bool.{cases_lt}
use Rattle.std.proofs.lemmas.List.{get_or_append_left, get_or_push, length_push}
use Rattle.visit_tree.specs.Tree.{opener_at, IsLevel}
use Rattle.visit_tree.proofs.Openers.{opener_cases}

-- those before that place have theirs
pub record AreLevelsTo (parents : List (Option ℕ)) (place : ℕ) (levels : List ℕ) : Type 0 where
  pub count : length levels ≡ place
  pub each : (k : ℕ) → k < place → IsLevel parents levels k (get_or levels k 0)
  pub low : (k : ℕ) → k < place → get_or levels k 0 ≤ k

same_above : (parents : List (Option ℕ)) (levels : List ℕ) (level k : ℕ) → k ≤ length levels
    → option_map_or (λ opener. get_or (levels ++ level ∷ []) opener 0 + 1) (opener_at parents k) 0
    ≡ option_map_or (λ opener. get_or levels opener 0 + 1) (opener_at parents k) 0
same_above parents levels level k within = elim (opener_cases parents k) [
  | inl none ↦ rw none.is refl
  | inr opener ↦
      let less = opener.1.less in
      let same = get_or_append_left levels (level ∷ []) 0 opener.0 (omega arith) in
      rw opener.1.is (ap (λ n. n + 1) same)
]

module _ (parents : List (Option ℕ)) (levels : List ℕ) (place level : ℕ) (are : AreLevelsTo parents place levels)
    (is : IsLevel parents levels place level) (less : level ≤ place) where
  one_more : (k : ℕ) → k < place + 1 → IsLevel parents (levels ++ level ∷ []) k (get_or (levels ++ level ∷ []) k 0)
  one_more k within = elim (cases_lt k place) [
    | inl before ↦
        get_or_append_left levels (level ∷ []) 0 k (omega (arith, are.count)) ∙ are.each k before
        ∙ sym (same_above parents levels level k (omega (arith, are.count)))
    | inr here ↦
        let at : k ≡ place = omega arith in
        rw at (get_or_push levels level 0 place are.count ∙ is
        ∙ sym (same_above parents levels level place (omega (arith, are.count))))
  ]

  pub level_pushed : AreLevelsTo parents (place + 1) (levels ++ level ∷ [])
  level_pushed = record {
    count = omega (arith, are.count, length_push levels level);
    each = one_more;
    low = λ k within. elim (cases_lt k place) [
      | inl before ↦ omega (arith, get_or_append_left levels (level ∷ []) 0 k (omega (arith, are.count)), are.low k before)
      | inr here ↦
          let at : k ≡ place = omega arith in rw at (omega (arith, get_or_push levels level 0 place are.count, less))
    ];
  }
