use Rattle.std.proofs.Common.{◌≡◌, arith, add-one, ◌+◌, ap, sym, ◌∙◌, [], ◌∷◌, ◌++◌, true, None, option_map, refl}
use Rattle.page_tree.specs.Look.{name_at}
use Rattle.page_tree.specs.Number.{place_numbered}
use Rattle.xpath_child.specs.Fault.{test_in}
use Rattle.xpath_child.specs.Reaches.{matches, matching_before}
use Rattle.xpath_child.specs.Targets.{place_found}
use Rattle.xpath_child.specs.inside.Search.{steps_left, step_for}
use Rattle.xpath_child.proofs.Steps.{noted, settled, match_noted, other_noted, nothing_noted}
use Rattle.xpath_child.proofs.path.+visit.Goals as goal
use Rattle.xpath_child.proofs.path.+visit.Goals.{visit_each-then-is_match+else-is_several, visit_each-else-is_match}

pub visit_child-returns-then-are_more : goal.visit_child-returns-then-are_more
visit_child-returns-then-are_more t c =
    let page = c.args.page.now in
    nothing_noted page (steps_left c.args.steps.now (option_map (λ r. r.now) c.args.left)) (place_numbered c.args.child page) (place_found page c.args.found.now) (c.are_more.ensures c.if-are_more.true) (sym c.children_of.ensures ∙ c.if-children_of-eq0.true)

pub visit_each-returns-then-is_several : goal.visit_each-returns-then-is_several
visit_each-returns-then-is_several t c =
    let page = c.args.page.now in
    let at = place_numbered c.args.at page in
    let test = test_in c.args.test.now in
    let step = step_for c.args.test.now None in
    let rest = steps_left c.args.steps.now (option_map (λ r. r.now) c.args.left) in
    let child = place_numbered c.loop-i.child page in
    let before = matching_before page test at c.loop-i.i in
    let now = place_found page c.loop-i.found in
    let next = place_found page c.visit_child.new.found in
    let there = c.loop-i.invariant.child (omega (arith, c.children_of-i-end.ensures)) in
    let fits : matches test (name_at child page) ≡ true = ap (matches test) (sym c.name_of.ensures) ∙ sym c.is_match.ensures ∙ c.if-is_match.true in
    settled page step rest at (place_found page c.args.found.now) next (c.loop-i.i + 1) c.children_of-i-end.result c.children_of-i-end.ensures (omega arith)
    (noted page step rest at child c.loop-i.i before refl there (place_found page c.args.found.now) now next c.loop-i.invariant.found
    (match_noted page test rest child now next fits c.visit_child.ensures))
    (ap (place_found page) (c.is_several.ensures.0 c.if-is_several.true))

pub visit_each-loop-i-preserved : goal.visit_each-loop-i-preserved
visit_each-loop-i-preserved t c =
    let page = c.args.page.now in
    let at = place_numbered c.args.at page in
    let test = test_in c.args.test.now in
    let step = step_for c.args.test.now None in
    let rest = steps_left c.args.steps.now (option_map (λ r. r.now) c.args.left) in
    let child = place_numbered c.loop-i.child page in
    let before = matching_before page test at c.loop-i.i in
    let now = place_found page c.loop-i.found in
    let there = c.loop-i.invariant.child (omega (arith, c.children_of-i-end.ensures)) in
    let fits : matches test (name_at child page) ≡ c.is_match.result = ap (matches test) (sym c.name_of.ensures) ∙ sym c.is_match.ensures in
    let notes = noted page step rest at child c.loop-i.i before refl there (place_found page c.args.found.now) now (place_found page c.if-is_match.found) c.loop-i.invariant.found in
    record {
      child = λ more. c.nodes_under-child-in-loop-i.ensures.next at c.loop-i.i there (omega (arith, more)) ∙ ap (λ k. at ++ k ∷ []) (sym (add-one c.loop-i.i));
      found = elim c.if-is_match.branch [
        | visit_each-then-is_match+else-is_several w ↦
            notes (match_noted page test rest child now (place_found page c.if-is_match.found) (fits ∙ w.if-is_match.true) (ap (place_found page) w.found-is ∙ w.visit_child.ensures))
        | visit_each-else-is_match w ↦ notes (other_noted page test rest child now (place_found page c.if-is_match.found) (fits ∙ w.if-is_match.false) (ap (place_found page) w.found-is))
      ];
    }
