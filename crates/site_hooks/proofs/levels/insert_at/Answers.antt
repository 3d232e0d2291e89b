use Rattle.std.proofs.Common.{◌≡◌, ◌⊎◌, ◌<◌, ◌∷◌, [], inl, inr, ℕ, List, length, set, refl, sym, ◌∙◌, ap, subst, arith}
use Rattle.std.specs.Prelude.{◌↔◌}
use Rattle.std.proofs.lemmas.List.{length-append}
use Rattle.std.proofs.lemmas.Option.{slice_get_read}
use Rattle.site_hooks.specs.Levels.{IsOfStep, IsOfStepAt, IsOfEndAt}
use Rattle.site_hooks.specs.Sets.{IsIn}
use Rattle.site_hooks.proofs.StepLaws.{pushed_none, set_more, set_same}
use Rattle.site_hooks.proofs.NoteLaws.{on_ok}
use Rattle.site_hooks.proofs.levels.insert_at.Goals as goal
use Rattle.site_hooks.proofs.levels.insert_at.Goals.{then-at-len+in_ok-push, else-at-len}

-- the levels before the step is noted: one more, where it comes next
pub returns-clause-ends : goal.returns-clause-ends
returns-clause-ends c =
    let old = c.args.levels.now.items in
    let levels = c.if-at-len.levels.items in
    let new = c.insert.new.self in
    let level = c.index_mut.result.now in
    let inside : c.args.at < length levels = elim c.if-at-len.branch [
      | then-at-len+in_ok-push w ↦ omega (arith, ap (λ v. length v.items) w.levels-is, ap length w.in_ok-push.ensures.items, length-append old (w.new.result ∷ []), c.requires)
      | else-at-len w ↦ omega (arith, ap (λ v. length v.items) w.levels-is, w.if-at-len.false, c.len.ensures, c.args.levels.now.ok, c.requires)
    ] in
    let is = slice_get_read levels (length levels) c.args.at level refl inside c.index_mut.ensures.value in
    let same : (j k : ℕ) → IsOfEndAt levels j k ↔ IsOfEndAt old j k = λ j k. elim c.if-at-len.branch [
      | then-at-len+in_ok-push w ↦ subst (λ ls. IsOfEndAt ls j k ↔ IsOfEndAt old j k) (sym (ap (λ v. v.items) w.levels-is ∙ w.in_ok-push.ensures.items))
          (pushed_none (λ l. IsIn l.ends k) old w.new.result (w.new.ensures.ends k) j)
      | else-at-len w ↦ subst (λ ls. IsOfEndAt ls j k ↔ IsOfEndAt old j k) (sym (ap (λ v. v.items) w.levels-is)) (λ h. h, λ h. h)
    ] in
    let ends : (j k : ℕ) → IsOfEndAt (set levels c.args.at new) j k ↔ IsOfEndAt old j k = λ j k.
    let kept = set_same (λ l. IsIn l.ends k) levels c.args.at j level new is (λ h. subst (λ s. IsIn s k) c.insert.ensures.ends h, λ h. subst (λ s. IsIn s k) (sym c.insert.ensures.ends) h) in
    (λ h. (same j k).0 (kept.0 h), λ h. kept.1 ((same j k).1 h)) in
    on_ok c.insert.result (λ told. ends) c.insert.ensures.steps

pub returns-clause-steps : goal.returns-clause-steps
returns-clause-steps c =
    let old = c.args.levels.now.items in
    let levels = c.if-at-len.levels.items in
    let new = c.insert.new.self in
    let level = c.index_mut.result.now in
    let inside : c.args.at < length levels = elim c.if-at-len.branch [
      | then-at-len+in_ok-push w ↦ omega (arith, ap (λ v. length v.items) w.levels-is, ap length w.in_ok-push.ensures.items, length-append old (w.new.result ∷ []), c.requires)
      | else-at-len w ↦ omega (arith, ap (λ v. length v.items) w.levels-is, w.if-at-len.false, c.len.ensures, c.args.levels.now.ok, c.requires)
    ] in
    let is = slice_get_read levels (length levels) c.args.at level refl inside c.index_mut.ensures.value in
    let same : (j k : ℕ) (text : List ℕ) → IsOfStepAt levels j text k ↔ IsOfStepAt old j text k = λ j k text. elim c.if-at-len.branch [
      | then-at-len+in_ok-push w ↦ subst (λ ls. IsOfStepAt ls j text k ↔ IsOfStepAt old j text k) (sym (ap (λ v. v.items) w.levels-is ∙ w.in_ok-push.ensures.items))
          (pushed_none (λ l. IsOfStep l text k) old w.new.result (w.new.ensures.steps text k) j)
      | else-at-len w ↦ subst (λ ls. IsOfStepAt ls j text k ↔ IsOfStepAt old j text k) (sym (ap (λ v. v.items) w.levels-is)) (λ h. h, λ h. h)
    ] in
    let Told : Type 0 = (text : List ℕ) (k : ℕ) → IsOfStep new text k ↔ (IsOfStep level text k ⊎ ((text ≡ c.args.step.now) × (k ≡ c.args.number))) in
    let steps : Told → (j k : ℕ) (text : List ℕ) → IsOfStepAt (set levels c.args.at new) j text k ↔ (IsOfStepAt old j text k ⊎ ((j ≡ c.args.at) × ((text ≡ c.args.step.now) × (k ≡ c.args.number)))) =
    λ told j k text.
    let more = set_more (λ l. IsOfStep l text k) ((text ≡ c.args.step.now) × (k ≡ c.args.number)) levels c.args.at j level new is (told text k) in (
      λ h. elim (more.0 h) [ inl was ↦ inl ((same j k text).0 was) | inr now ↦ inr now ],
      λ h. more.1 (elim h [ inl was ↦ inl ((same j k text).1 was) | inr now ↦ inr now ]),
    ) in
    on_ok c.insert.result steps c.insert.ensures.steps
