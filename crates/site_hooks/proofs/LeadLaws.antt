-- Which paths lead on to a child, by the four ways in which their next step may be written.
use Rattle.std.proofs.Common.{◌≡◌, ℕ, ◌+◌, ◌<◌, ◌^◌, inl, inr, true, List, [], ◌∷◌, ◌++◌, get_or, slice_get, Some, None, IsSomeAnd, sym, subst}
use Rattle.std.specs.Prelude.{◌↔◌}
use Rattle.page_tree.specs.Name.{is_name}
use Rattle.xpath_child.specs.Path.{Step, max_index_digits, index_text}
use Rattle.site_hooks.specs.Levels.{HasStep, IsOfStep, AreLevels}
use Rattle.site_hooks.specs.Sets.{Has, AddsSome}
use Rattle.site_hooks.specs.Walk.{PicksAt}
use Rattle.site_hooks.specs.declared.levels.Level.{Level}
use Rattle.site_hooks.proofs.PickLaws.{OneOfFour, picks_where}

module _ (name : List ℕ) (same elements : ℕ) where
  map_four : (P Q : List ℕ → Type 0) → ((text : List ℕ) → P text → Q text) → OneOfFour name same elements P → OneOfFour name same elements Q
  map_four P Q f h = elim h [
    | inl a ↦ inl (f _ a)
    | inr h ↦ inr (elim h [ inl b ↦ inl (f _ b) | inr h ↦ inr (elim h [ inl c ↦ inl (f _ c) | inr d ↦ inr (f _ d) ]) ])
  ]

  none_of_four : (P : List ℕ → Type 0) → ((text : List ℕ) → ¬ (P text)) → ¬ (OneOfFour name same elements P)
  none_of_four P none h = elim h [ inl a ↦ none _ a | inr h ↦ elim h [ inl b ↦ none _ b | inr h ↦ elim h [ inl c ↦ none _ c | inr d ↦ none _ d ] ] ]

  -- after the four, from nothing
  joined : (P : List ℕ → ℕ → Type 0) (alive b0 b1 b2 b3 b4 : List ℕ) → ((k : ℕ) → ¬ (Has b0 k)) → AddsSome (P (name ++ index_text None)) alive b0 b1
      → AddsSome (P (name ++ index_text (Some (same + 1)))) alive b1 b2 → AddsSome (P (42 ∷ index_text None)) alive b2 b3
      → AddsSome (P (42 ∷ index_text (Some (elements + 1)))) alive b3 b4 → (k : ℕ) → (Has b4 k ↔ (Has alive k × OneOfFour name same elements (λ text. P text k)))
  joined P alive b0 b1 b2 b3 b4 none first second third fourth k = (
    λ h. elim ((fourth k).0 h) [
      | inr d ↦ (d.0, inr (inr (inr d.1)))
      | inl h ↦ elim ((third k).0 h) [
        | inr c ↦ (c.0, inr (inr (inl c.1)))
        | inl h ↦ elim ((second k).0 h) [
          | inr b ↦ (b.0, inr (inl b.1))
          | inl h ↦ elim ((first k).0 h) [ inr a ↦ (a.0, inl a.1) | inl h ↦ absurd (none k h) ]
        ]
      ]
    ],
    λ (has, four). elim four [
      | inl a ↦ (fourth k).1 (inl ((third k).1 (inl ((second k).1 (inl ((first k).1 (inr (has, a))))))))
      | inr four ↦ elim four [
        | inl b ↦ (fourth k).1 (inl ((third k).1 (inl ((second k).1 (inr (has, b))))))
        | inr four ↦ elim four [
          | inl c ↦ (fourth k).1 (inl ((third k).1 (inr (has, c))))
          | inr d ↦ (fourth k).1 (inr (has, d))
        ]
      ]
    ],
  )

  module _ (levels : List Level) (paths : List (List Step)) (n : ℕ) (are : AreLevels levels paths) (is : is_name name ≡ true) (few_same : same + 1 < 10 ^ max_index_digits)
      (few_elements : elements + 1 < 10 ^ max_index_digits) where
    picks : (k : ℕ) → (OneOfFour name same elements (HasStep (get_or paths k []) n) ↔ PicksAt (get_or paths k []) n name same elements)
    picks k = picks_where name same elements is few_same few_elements (get_or paths k []) n (are.each k)

    -- past the last level
    pub led_none : slice_get levels n ≡ None → (below alive : List ℕ) → ((k : ℕ) → ¬ (Has below k)) → (k : ℕ) → (Has below k ↔ (Has alive k × PicksAt (get_or paths k []) n name same elements))
    led_none past below alive none k = (
      λ h. absurd (none k h),
      λ h. absurd (none_of_four (HasStep (get_or paths k []) n) (λ text has. subst (λ o. IsSomeAnd o (λ level. IsOfStep level text k)) past ((are.steps n k text).1 has)) ((picks k).1 h.1)),
    )

    pub led_some : (level : Level) → slice_get levels n ≡ Some level → (alive b0 b1 b2 b3 b4 : List ℕ) → ((k : ℕ) → ¬ (Has b0 k)) → AddsSome (IsOfStep level (name ++ index_text None)) alive b0 b1
        → AddsSome (IsOfStep level (name ++ index_text (Some (same + 1)))) alive b1 b2 → AddsSome (IsOfStep level (42 ∷ index_text None)) alive b2 b3
        → AddsSome (IsOfStep level (42 ∷ index_text (Some (elements + 1)))) alive b3 b4 → (k : ℕ) → (Has b4 k ↔ (Has alive k × PicksAt (get_or paths k []) n name same elements))
    led_some level there alive b0 b1 b2 b3 b4 none first second third fourth k =
        let told = joined (IsOfStep level) alive b0 b1 b2 b3 b4 none first second third fourth k in
        let path = get_or paths k [] in (
          λ h. let both = told.0 h in (
            both.0,
            (picks k).0 (map_four (λ text. IsOfStep level text k) (HasStep path n) (λ text has. (are.steps n k text).0 (subst (λ o. IsSomeAnd o (λ level. IsOfStep level text k)) (sym there) has)) both.1),
          ),
          λ h. told.1 (
            h.0,
            map_four (HasStep path n) (λ text. IsOfStep level text k) (λ text has. subst (λ o. IsSomeAnd o (λ level. IsOfStep level text k)) there ((are.steps n k text).1 has)) ((picks k).1 h.1),
          ),
        )
