use Rattle.std.proofs.Common.{◌≡◌, ◌⊎◌, inl, inr, sym, ◌∙◌, ap, subst, ◌++◌, Some, None, IsSomeAnd}
use Rattle.std.specs.Prelude.{◌↔◌}
use Rattle.std.specs.BTreeMap.{get_by_text}
use Rattle.xpath_child.specs.Path.{index_text}
use Rattle.site_hooks.specs.Sets.{Has, IsIn, AddsSome}
use Rattle.site_hooks.specs.Levels.{IsOfStep}
use Rattle.site_hooks.proofs.levels.Level.add_common.Goals as goal
use Rattle.site_hooks.proofs.levels.Level.add_common.Goals.{in-Some, in_default}

pub returns-clause-adds : goal.returns-clause-adds
returns-clause-adds c =
    let steps = c.args.self.now.steps in
    let text = c.args.test.now ++ index_text c.args.index in
    let into = c.args.into.now in
    let others = c.args.others.now in
    elim c.match-get.branch [
      | in-Some w ↦
          let known : get_by_text steps text ≡ Some w.in-Some.set.now = sym (w.in-Some.ensures.value ∙ ap (get_by_text steps) (c.as_str.ensures ∙ c.in_ok-text.ensures)) in
          subst (AddsSome (IsOfStep c.args.self.now text) others into) (sym w.into-is)
          (λ k. subst (λ o. Has w.add_common.new.into k ↔ (Has into k ⊎ (Has others k × IsSomeAnd o (λ set. IsIn set k)))) (sym known) (w.add_common.ensures.adds k))
      | in_default w ↦
          let known : get_by_text steps text ≡ None = sym (w.in_default.ensures.value ∙ ap (get_by_text steps) (c.as_str.ensures ∙ c.in_ok-text.ensures)) in
          subst (AddsSome (IsOfStep c.args.self.now text) others into) (sym w.into-is)
          (λ k. (λ h. inl h, λ h. elim h [ inl was ↦ was | inr both ↦ absurd (subst (λ o. IsSomeAnd o (λ set. IsIn set k)) known both.1) ]))
    ]
