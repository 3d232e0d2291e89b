use Rattle.std.proofs.Common.{◌≡◌, ◌⊎◌, inl, inr, cond, Some, IsSomeAnd, string_bytes, sym, ◌∙◌, ap, subst, rules}
use Rattle.std.specs.Prelude.{◌↔◌}
use Rattle.std.specs.BTreeMap.{get_by_text}
use Rattle.std.specs.Str.{bytes_eq}
use Rattle.std.proofs.lemmas.Map.Text.{btree_map_updates_text}
use Rattle.site_hooks.specs.Sets.{IsIn}
use Rattle.site_hooks.specs.declared.levels.Level.{Level}
use Rattle.site_hooks.proofs.StepLaws.{step_changed}
use Rattle.site_hooks.proofs.NoteLaws.{on_ok}
use Rattle.site_hooks.proofs.levels.Level.insert.Goals as goal

pub returns-in-Some-clause-steps : goal.returns-in-Some-clause-steps
returns-in-Some-clause-steps c =
    let old = c.args.self.now in
    let step = c.args.step.now in
    let new = c.insert.new.self in
    let level : Level = record { steps = c.get_mut.follows.lender new; ends = old.ends } in
    on_ok c.insert.result
    (λ told. step_changed old level step new c.args.number
    (btree_map_updates_text step old.steps (c.get_mut.follows.lender new) _ ((c.get_mut.follows.holds new).3 (search rules)))
    (λ k. subst (λ o. IsIn new k ↔ (IsSomeAnd o (λ set. IsIn set k) ⊎ (k ≡ c.args.number))) c.in-Some.ensures.value (told k)))
    c.insert.ensures

pub returns-clause-steps : goal.returns-clause-steps
returns-clause-steps c =
    let old = c.args.self.now in
    let step = c.args.step.now in
    let before = c.get_mut.follows.lender-at-none in
    let new = c.insert-2.new.self in
    let level : Level = record { steps = c.insert-3.new.self; ends = old.ends } in
    step_changed old level step new c.args.number
    (λ text.
    btree_map_updates_text (string_bytes c.in_ok-from_str.field-0) before c.insert-3.new.self _ c.in_ok-insert-2.ensures.updates text
    ∙ ap (λ bytes. cond (bytes_eq bytes text) (Some new) (get_by_text before text)) c.in_ok-from_str.ensures.ok
    ∙ ap (λ steps. cond (bytes_eq step text) (Some new) (get_by_text steps text)) c.get_mut.follows.holds-at-none)
    (λ k. (
      λ h. elim ((c.in_ok-insert.ensures k).0 h) [ inl was ↦ absurd (c.new-set.ensures k was) | inr now ↦ inr now ],
      λ h. (c.in_ok-insert.ensures k).1 (elim h [
        | inl was ↦ absurd (subst (λ o. IsSomeAnd o (λ set. IsIn set k)) (sym c.in_default.ensures.value) was)
        | inr now ↦ inr now
      ]),
    ))
