use Rattle.std.proofs.Common.{◌*◌, inl, inr, [], ◌∙◌, ap, sym, subst, arith}
use Rattle.std.proofs.lemmas.Bool.{cases_lt}
use Rattle.std.proofs.lemmas.List.{get_or_past}
use Rattle.xpath_child.specs.Targets.{place_found, target_in}
use Rattle.xpath_child.specs.declared.path.Found.TheVariants.{Missing}
use Rattle.site_hooks.specs.Sets.{Has}
use Rattle.site_hooks.proofs.SetLaws.{none_has}
use Rattle.site_hooks.proofs.noting.find_one_by_one.Goals as goal

pub invariant_of-result : goal.invariant_of-result
invariant_of-result c = record {
  room = omega (arith, c.loop-path.invariant.len, c.loop-path.auto.path-index-end, c.in_ok-reached.ensures.len, c.word_count.ensures);
  none = λ k not. elim (cases_lt k (64 * c.word_count.result)) [
    | inl less ↦ absurd (not (c.in_ok-reached.ensures.all k less))
    | inr past ↦ get_or_past c.loop-path.found.items k Missing (omega (arith, past, c.loop-path.invariant.len, c.loop-path.auto.path-index-end, c.word_count.ensures))
  ];
  several = λ number has. absurd (none_has [] (λ j less. absurd (omega (arith, less))) number (subst (λ words. Has words number) c.new.ensures.items has));
}

pub returns : goal.returns
returns c = λ number. elim (cases_lt number c.loop-path.path-index) [
  | inl less ↦ c.loop-path.invariant.done number less
  | inr past ↦
      ap (place_found c.args.page.now) (get_or_past c.loop-path.found.items number Missing (omega (arith, past, c.loop-path.invariant.len)))
      ∙ sym (ap (λ path. target_in path c.args.page.now) (get_or_past c.args.paths.now number [] (omega (arith, past))))
]
