use Rattle.std.proofs.Common.{rules, length, option_map, refl, sym, ◌∙◌, ap, subst, arith}
use Rattle.xpath_child.specs.inside.Search.{AreSteps, steps_left}
use Rattle.xpath_child.proofs.StepsCut.{behind_are, one_more}
use Rattle.xpath_child.proofs.cutting.CutSteps.of.Goals as goal

pub returns-in_default-clause-steps : goal.returns-in_default-clause-steps
returns-in_default-clause-steps g c =
    ap (λ o. steps_left c.push.new.self.items (option_map (λ r. r.now) o)) (sym c.in_default.is)
    ∙ ap (λ cut. steps_left cut (option_map (λ r. r.now) c.of-tail.result.rest)) c.push.ensures.items
    ∙ one_more c.loop-before.left.now c.of-tail.result c.of-tail.ensures c.loop-before.cut.items (record { test = c.test_of-test.result; index = c.of-tail.result.index }) c.test_of-test.ensures refl
    ∙ c.loop-before.invariant.steps

pub loop-before-preserved : goal.loop-before-preserved
loop-before-preserved g c = record {
  utf8 = search rules;
  count = omega (arith, ap length c.push.ensures.items, c.push.ensures.len, c.loop-before.invariant.count);
  are = subst AreSteps (ap (option_map (λ r. r.now)) c.in-Some.is) (behind_are c.loop-before.left.now c.of-tail.result c.of-tail.ensures c.loop-before.invariant.are);
  steps = ap (λ o. steps_left c.push.new.self.items (option_map (λ r. r.now) o)) (sym c.in-Some.is)
      ∙ ap (λ cut. steps_left cut (option_map (λ r. r.now) c.of-tail.result.rest)) c.push.ensures.items
      ∙ one_more c.loop-before.left.now c.of-tail.result c.of-tail.ensures c.loop-before.cut.items (record { test = c.test_of-test.result; index = c.of-tail.result.index }) c.test_of-test.ensures refl
      ∙ c.loop-before.invariant.steps;
}
