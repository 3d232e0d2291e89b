-- The levels of a path's steps, one step after another.
use Rattle.std.proofs.Common.{◌≡◌, ◌⊎◌, ℕ, zero, suc, ◌+◌, ◌-◌, ◌<◌, ◌≤◌, inl, inr, Bool, true, false, cond, List, [], ◌∷◌, ◌++◌, map, length, drop, set, slice_get, get_or, Option, Some, None, option_map, IsSomeAnd, Ok, refl, sym, ◌∙◌, ap, subst, arith}
use Rattle.std.specs.Prelude.{◌↔◌}
use Rattle.std.specs.BTreeMap.{get_by_text}
use Rattle.std.specs.Str.{bytes_eq}
use Rattle.std.proofs.lemmas.Bool.{cases_eq}
use Rattle.std.proofs.lemmas.List.{length-map}
use Rattle.std.proofs.lemmas.Option.{slice_get_within, slice_get_read}
use Rattle.std.proofs.lemmas.Slice.Eq.{bytes_eq-Decides}
use Rattle.page_tree.specs.FirstFault.{ok_unless}
use Rattle.page_tree.proofs.FirstFault.{unless-none, option_or-none}
use Rattle.xpath_child.specs.Path.{Step, step_text}
use Rattle.xpath_child.specs.Fault.{fault_at, first_step_fault, written_steps, path_fault, step_in, path_in}
use Rattle.xpath_child.specs.declared.fault.PathFault.{PathFault}
use Rattle.xpath_child.specs.declared.fault.PathFaultKind.TheVariants.{NotAbsolute}
use Rattle.xpath_child.proofs.Sound.{step_sound}
use Rattle.site_hooks.specs.Levels.{IsOfStep, IsOfStepAt, IsOfEndAt, AddsNumber}
use Rattle.site_hooks.specs.Sets.{IsIn}
use Rattle.site_hooks.specs.declared.levels.Level.{Level}
use Rattle.site_hooks.specs.declared.number_set.NumberSet.{NumberSet}

-- ---- one level

-- the set of one step was changed
pub step_changed : (old new : Level) (step : List ℕ) (set : NumberSet) (number : ℕ) → ((text : List ℕ) → get_by_text new.steps text ≡ cond (bytes_eq step text) (Some set) (get_by_text old.steps text))
    → ((k : ℕ) → IsIn set k ↔ (IsOfStep old step k ⊎ (k ≡ number))) → (text : List ℕ) (other : ℕ) → (IsOfStep new text other ↔ (IsOfStep old text other ⊎ ((text ≡ step) × (other ≡ number))))
step_changed old new step set number updates told text other = by_text (bytes_eq step text) refl
  where
    by_text : (b : Bool) → bytes_eq step text ≡ b → (IsOfStep new text other ↔ (IsOfStep old text other ⊎ ((text ≡ step) × (other ≡ number))))
    by_text true is =
        let same : step ≡ text = (bytes_eq-Decides step text).0 is in
        let now : get_by_text new.steps text ≡ Some set = updates text ∙ ap (λ b. cond b (Some set) (get_by_text old.steps text)) is in (
          λ h. elim ((told other).0 (subst (λ o. IsSomeAnd o (λ s. IsIn s other)) now h)) [
            | inl was ↦ inl (subst (λ t. IsOfStep old t other) same was)
            | inr fresh ↦ inr (sym same, fresh)
          ],
          λ h. subst (λ o. IsSomeAnd o (λ s. IsIn s other)) (sym now) ((told other).1 (elim h [
            | inl was ↦ inl (subst (λ t. IsOfStep old t other) (sym same) was)
            | inr both ↦ inr both.1
          ])),
        )
    by_text false is =
        let now : get_by_text new.steps text ≡ get_by_text old.steps text = updates text ∙ ap (λ b. cond b (Some set) (get_by_text old.steps text)) is in (
          λ h. inl (subst (λ o. IsSomeAnd o (λ s. IsIn s other)) now h),
          λ h. elim h [
            | inl was ↦ subst (λ o. IsSomeAnd o (λ s. IsIn s other)) (sym now) was
            | inr both ↦ let clash : true ≡ false = sym ((bytes_eq-Decides step text).1 (sym both.0)) ∙ is in cc
          ],
        )

-- ---- all levels

-- one behind the others of which it isn't true
pub pushed_none : (P : Level → Type 0) (levels : List Level) (empty : Level) → ¬ (P empty) → (at : ℕ) → (IsSomeAnd (slice_get (levels ++ empty ∷ []) at) P ↔ IsSomeAnd (slice_get levels at) P)
pushed_none P [] empty none zero = (λ h. absurd (none h), λ h. absurd h)
pushed_none P [] empty none (suc at) = (λ h. h, λ h. h)
pushed_none P (level ∷ levels) empty none zero = (λ h. h, λ h. h)
pushed_none P (level ∷ levels) empty none (suc at) = pushed_none P levels empty none at

-- one of which it is true in one case more
pub set_more : (P : Level → Type 0) (More : Type 0) (levels : List Level) (i j : ℕ) (old new : Level) → slice_get levels i ≡ Some old → (P new ↔ (P old ⊎ More))
    → (IsSomeAnd (slice_get (set levels i new) j) P ↔ (IsSomeAnd (slice_get levels j) P ⊎ ((j ≡ i) × More)))
set_more P More [] i j old new is told = cc
set_more P More (level ∷ levels) zero zero old new is told =
    let same : level ≡ old = cc in (
      λ h. elim (told.0 h) [ inl was ↦ inl (subst P (sym same) was) | inr more ↦ inr (refl, more) ],
      λ h. told.1 (elim h [ inl was ↦ inl (subst P same was) | inr both ↦ inr both.1 ]),
    )
set_more P More (level ∷ levels) zero (suc j) old new is told = (λ h. inl h, λ h. elim h [ inl was ↦ was | inr both ↦ absurd (omega (arith, both.0)) ])
set_more P More (level ∷ levels) (suc i) zero old new is told = (λ h. inl h, λ h. elim h [ inl was ↦ was | inr both ↦ absurd (omega (arith, both.0)) ])
set_more P More (level ∷ levels) (suc i) (suc j) old new is told =
    let deeper = set_more P More levels i j old new is told in (
      λ h. elim (deeper.0 h) [ inl was ↦ inl was | inr both ↦ inr (ap suc both.0, both.1) ],
      λ h. deeper.1 (elim h [ inl was ↦ inl was | inr both ↦ inr (omega (arith, both.0), both.1) ]),
    )

-- one of which it is true as before
pub set_same : (P : Level → Type 0) (levels : List Level) (i j : ℕ) (old new : Level) → slice_get levels i ≡ Some old → (P new ↔ P old) → (IsSomeAnd (slice_get (set levels i new) j) P ↔ IsSomeAnd (slice_get levels j) P)
set_same P levels i j old new is told =
    let more = set_more P ⊥ levels i j old new is (λ h. inl (told.0 h), λ h. elim h [ inl was ↦ told.1 was | inr never ↦ absurd never ]) in (
      λ h. elim (more.0 h) [ inl was ↦ was | inr never ↦ absurd never.1 ],
      λ h. more.1 (inl h),
    )

-- ---- a path's steps as they are written

texts_back : (before start : ℕ) (texts : List (List ℕ)) → first_step_fault before start texts ≡ None → (at : ℕ) → option_map step_text (slice_get (map step_in texts) at) ≡ slice_get texts at
texts_back before start [] h at = refl
texts_back before start (text ∷ texts) h zero = ap Some (step_sound text start (option_or-none _ _ (unless-none _ _ _ h).1).0).1
texts_back before start (text ∷ texts) h (suc at) = texts_back (suc before) (start + length text + 1) texts (option_or-none _ _ (unless-none _ _ _ h).1).1 at

read_whole : (fault : Option PathFault) (x y : List Step) → ok_unless fault x ≡ Ok y → (fault ≡ None) × (x ≡ y)
read_whole None x y h = (refl, cc)
read_whole (Some fault) x y h = cc

-- a path's text begins with a `/`
pub none_without_slash : (text : List ℕ) (path : List Step) → path_fault text ≡ Some (fault_at 0 NotAbsolute) → ¬ (path_in text ≡ Ok path)
none_without_slash text path fault h = let both = read_whole (path_fault text) (map step_in (written_steps (drop 1 text))) path h in let clash = sym fault ∙ both.0 in cc

module _ (rest : List ℕ) (path : List Step) (read : path_in (47 ∷ rest) ≡ Ok path) where
  whole : (path_fault (47 ∷ rest) ≡ None) × (map step_in (written_steps rest) ≡ path)
  whole = read_whole (path_fault (47 ∷ rest)) (map step_in (written_steps rest)) path read

  pub steps_written : (at : ℕ) → option_map step_text (slice_get path at) ≡ slice_get (written_steps rest) at
  steps_written at = ap (λ p. option_map step_text (slice_get p at)) (sym whole.1) ∙ texts_back 0 1 (written_steps rest) whole.0 at

  pub many_written : length path ≡ length (written_steps rest)
  many_written = ap length (sym whole.1) ∙ length-map (written_steps rest) step_in

-- ---- one step more

-- each of the first so many steps has that number now too
pub record AddsSteps (texts : List (List ℕ)) (n number : ℕ) (old new : List Level) : Type 0 where
  pub room : n ≤ length new
  pub steps : (at other : ℕ) (text : List ℕ) → IsOfStepAt new at text other ↔ (IsOfStepAt old at text other ⊎ ((other ≡ number) × (at < n) × (slice_get texts at ≡ Some text)))
  pub ends : (at other : ℕ) → IsOfEndAt new at other ↔ IsOfEndAt old at other

pub next_step : (texts : List (List ℕ)) (n number : ℕ) (step : List ℕ) (old mid new : List Level) → AddsSteps texts n number old mid → (n < length texts) × (step ≡ get_or texts n step) → n < length new
    → ((at other : ℕ) (text : List ℕ) → IsOfStepAt new at text other ↔ (IsOfStepAt mid at text other ⊎ ((at ≡ n) × ((text ≡ step) × (other ≡ number)))))
    → ((at other : ℕ) → IsOfEndAt new at other ↔ IsOfEndAt mid at other) → AddsSteps texts (n + 1) number old new
next_step texts n number step old mid new before there room steps ends =
    let here : slice_get texts n ≡ Some step = slice_get_read texts (length texts) n step refl there.0 there.1 in
    record {
      room = omega (arith, room);
      steps = λ at other text. (
        λ h. elim ((steps at other text).0 h) [
          | inl mid_has ↦ elim ((before.steps at other text).0 mid_has) [ inl was ↦ inl was | inr more ↦ inr (more.0, omega (arith, more.1), more.2) ]
          | inr now ↦ inr (now.1.1, omega (arith, now.0), ap (slice_get texts) now.0 ∙ here ∙ ap Some (sym now.1.0))
        ],
        λ h. (steps at other text).1 (elim h [
          | inl was ↦ inl ((before.steps at other text).1 (inl was))
          | inr more ↦ elim (cases_eq at n) [
            | inl now ↦
                let both : Some text ≡ Some step = sym more.2 ∙ ap (slice_get texts) now ∙ here in
                let same : text ≡ step = cc in inr (now, (same, more.0))
            | inr other_level ↦ inl ((before.steps at other text).1 (inr (more.0, omega (arith, more.1, other_level), more.2)))
          ]
        ]),
      );
      ends = λ at other. (λ h. (before.ends at other).0 ((ends at other).0 h), λ h. (ends at other).1 ((before.ends at other).1 h));
    }

-- and its end
pub all_steps : (rest : List ℕ) (path : List Step) (n number : ℕ) (old mid new : List Level) → path_in (47 ∷ rest) ≡ Ok path → n ≡ length (written_steps rest) → AddsSteps (written_steps rest) n number old mid
    → ((at other : ℕ) (text : List ℕ) → IsOfStepAt new at text other ↔ IsOfStepAt mid at text other)
    → ((at other : ℕ) → IsOfEndAt new at other ↔ (IsOfEndAt mid at other ⊎ ((at ≡ n - 1) × (other ≡ number)))) → 0 < n → AddsNumber path number old new
all_steps rest path n number old mid new read many adds steps ends some = record {
  steps = λ at other text. (
    λ h. elim ((adds.steps at other text).0 ((steps at other text).0 h)) [ inl was ↦ inl was | inr more ↦ inr (more.0, steps_written rest path read at ∙ more.2) ],
    λ h. (steps at other text).1 ((adds.steps at other text).1 (elim h [
      | inl was ↦ inl was
      | inr more ↦
          let here = sym (steps_written rest path read at) ∙ more.1 in
          inr (more.0, omega (arith, many, slice_get_within (written_steps rest) at text here), here)
    ])),
  );
  ends = λ at other. (
    λ h. elim ((ends at other).0 h) [
      | inl mid_has ↦ inl ((adds.ends at other).0 mid_has)
      | inr more ↦ inr (more.1, omega (arith, more.0, many, some, many_written rest path read))
    ],
    λ h. (ends at other).1 (elim h [
      | inl was ↦ inl ((adds.ends at other).1 was)
      | inr more ↦ inr (omega (arith, more.1, many, many_written rest path read), more.0)
    ]),
  );
}
