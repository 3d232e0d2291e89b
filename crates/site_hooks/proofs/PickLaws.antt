-- A step selects a child where it is written in one of four ways.
use Rattle.std.proofs.Common.{◌≡◌, ℕ, zero, suc, ◌+◌, ◌<◌, ◌^◌, ◌==◌, ◌⊎◌, inl, inr, true, ◌&&◌, List, [], ◌∷◌, ◌++◌, Some, None, refl, sym, ◌∙◌, ap, subst, arith, add-one}
use Rattle.std.specs.Prelude.{◌↔◌}
use Rattle.std.specs.List.{AllByRecursion}
use Rattle.std.specs.Str.{bytes_eq}
use Rattle.std.proofs.lemmas.Bool.{eq-eqb}
use Rattle.std.proofs.lemmas.Slice.Eq.{bytes_eq-Decides}
use Rattle.page_tree.specs.Name.{is_name}
use Rattle.xpath_child.specs.Path.{Step, IsStep, max_index_digits, index_text, step_text}
use Rattle.xpath_child.specs.Fault.{step_in}
use Rattle.xpath_child.proofs.Complete.{step_back}
use Rattle.site_hooks.specs.Levels.{HasStep}
use Rattle.site_hooks.specs.Walk.{IsPicked, PicksAt}
use Rattle.site_hooks.proofs.SiblingLaws.{picked_text}

-- one of the four texts passes
abbrev pub OneOfFour : List ℕ → ℕ → ℕ → (List ℕ → Type 0) → Type 0
OneOfFour name same elements P = P (name ++ index_text None) ⊎ (P (name ++ index_text (Some (same + 1))) ⊎ (P (42 ∷ index_text None) ⊎ P (42 ∷ index_text (Some (elements + 1)))))

-- steps that are written alike are one
same_step : (a b : Step) → IsStep a → IsStep b → step_text a ≡ step_text b → a ≡ b
same_step a b is_a is_b same = sym (step_back a is_a) ∙ ap step_in same ∙ step_back b is_b

some_is : (a b : List ℕ) → Some a ≡ Some b → a ≡ b
some_is a b is = cc

module _ (name : List ℕ) (same elements : ℕ) where
  pub picked_one : (P : List ℕ → Type 0) (step : Step) → IsPicked name same elements step → P (step_text step) → OneOfFour name same elements P
  picked_one P step picked passes = picked_text name same elements (λ t. P t → OneOfFour name same elements P) step picked
      (λ h. inl h) (λ h. inr (inl h)) (λ h. inr (inr (inl h))) (λ h. inr (inr (inr h))) passes

  module _ (is : is_name name ≡ true) (few_same : same + 1 < 10 ^ max_index_digits) (few_elements : elements + 1 < 10 ^ max_index_digits) where
    own_name : bytes_eq name name ≡ true
    own_name = (bytes_eq-Decides name name).1 refl

    written_so : (step wanted : Step) → IsStep step → IsStep wanted → IsPicked name same elements wanted → step_text step ≡ step_text wanted → IsPicked name same elements step
    written_so step wanted is_step is_wanted picked written = subst (IsPicked name same elements) (sym (same_step step wanted is_step is_wanted written)) picked

    pub one_picked : (step : Step) → IsStep step → OneOfFour name same elements (λ t. step_text step ≡ t) → IsPicked name same elements step
    one_picked step is_step h = elim h [
      | inl named ↦ written_so step (record { test = Some name; index = None }) is_step (record { test = is; index = tt }) (ap (λ b. b && true) own_name) named
      | inr h ↦ elim h [
        | inl nth_named ↦ written_so step (record { test = Some name; index = Some (same + 1) }) is_step (record { test = is; index = (omega arith, few_same) })
            (ap (λ b. b && ((same + 1) == suc same)) own_name ∙ ap (λ n. n == suc same) (add-one same) ∙ eq-eqb (suc same) (suc same) refl) nth_named
        | inr h ↦ elim h [
          | inl any ↦ written_so step (record { test = None; index = None }) is_step (record { test = tt; index = tt }) refl any
          | inr nth ↦ written_so step (record { test = None; index = Some (elements + 1) }) is_step (record { test = tt; index = (omega arith, few_elements) })
              (ap (λ n. n == suc elements) (add-one elements) ∙ eq-eqb (suc elements) (suc elements) refl) nth
        ]
      ]
    ]

    -- the step of a path at a level
    pub picks_where : (path : List Step) (level : ℕ) → AllByRecursion IsStep path → (OneOfFour name same elements (HasStep path level) ↔ PicksAt path level name same elements)
    picks_where [] level all = (λ h. elim h [ inl a ↦ cc | inr h ↦ elim h [ inl b ↦ cc | inr h ↦ elim h [ inl c ↦ cc | inr d ↦ cc ] ] ], λ h. absurd h)
    picks_where (step ∷ steps) zero all = (
      λ h. one_picked step all.0 (elim h [
        | inl a ↦ inl (some_is _ _ a)
        | inr h ↦ inr (elim h [ inl b ↦ inl (some_is _ _ b) | inr h ↦ inr (elim h [ inl c ↦ inl (some_is _ _ c) | inr d ↦ inr (some_is _ _ d) ]) ])
      ]),
      λ picked. picked_one (HasStep (step ∷ steps) zero) step picked refl,
    )
    picks_where (step ∷ steps) (suc level) all = picks_where steps level all.1
