use Rattle.std.proofs.Common.{◌≡◌, ◌+◌, ◌*◌, ◌<◌, None, [], ◌∷◌, ◌++◌, length, option_map, fold}
use Rattle.page_tree.specs.Look.{child_count_at}
use Rattle.page_tree.specs.Number.{place_numbered}
use Rattle.xpath_child.specs.Targets.{place_found}
use Rattle.xpath_child.specs.inside.Search.{step_for, steps_in, steps_left, note}
use Rattle.xpath_child.proofs.StepsCut.{uncut}
use Rattle.xpath_child.proofs.Steps.{through}
use Rattle.xpath_child.proofs.path.+visit.Given as goal

abbrev pub decreases-visit : goal.decreases-visit
decreases-visit l = 5 * length (steps_left l.steps.now (option_map (λ text. text.now) l.left)) + 2 * uncut l.steps.now

abbrev pub decreases-visit_left : goal.decreases-visit_left
decreases-visit_left l = 5 * length (steps_in (option_map (λ text. text.now) l.left)) + 1

abbrev pub decreases-visit_each : goal.decreases-visit_each
decreases-visit_each l = 5 * length (steps_left l.steps.now (option_map (λ text. text.now) l.left)) + 3 + 1

abbrev pub decreases-visit_child : goal.decreases-visit_child
decreases-visit_child l = 5 * length (steps_left l.steps.now (option_map (λ text. text.now) l.left)) + 3

abbrev pub invariant-visit_each-loop-i : goal.invariant-visit_each-loop-i
invariant-visit_each-loop-i l =
    let page = l.page in
    let at = place_numbered l.at page in
    record {
      child : l.i < child_count_at at page → place_numbered l.child page ≡ at ++ l.i ∷ [];
      found : place_found page l.found ≡ fold note (place_found page l.initial.found) (through page (step_for l.test None) (steps_left l.steps (option_map (λ text. text.now) l.left)) at l.i);
    }
