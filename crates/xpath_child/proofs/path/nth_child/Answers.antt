use Rattle.std.proofs.Common.{arith, add-one, add-zero, ap, sym, ◌∙◌, ◌≡◌, Some, true, false, ◌&&◌, suc, [], ◌∷◌, ◌++◌, ne_eqb}
use Rattle.std.proofs.lemmas.Bool.{and_right}
use Rattle.page_tree.specs.Look.{name_at}
use Rattle.page_tree.specs.Number.{place_numbered}
use Rattle.xpath_child.specs.Reaches.{matches, is_nth}
use Rattle.xpath_child.specs.Fault.{test_in}
use Rattle.xpath_child.specs.inside.Search.{step_for}
use Rattle.xpath_child.proofs.Steps.{counted, none_yet, only_one}
use Rattle.xpath_child.proofs.path.nth_child.Goals as goal
use Rattle.xpath_child.proofs.path.nth_child.Goals.{then-is_match+else-count-nth, else-is_match}

pub returns-then-count-nth : goal.returns-then-count-nth
returns-then-count-nth c =
    let page = c.args.page.now in
    let at = place_numbered c.args.at page in
    let test = test_in c.args.test.now in
    let child = place_numbered c.loop-i.sibling page in
    let there = c.loop-i.invariant.child (omega (arith, c.children_of-i-end.ensures)) in
    let fits : matches test (name_at child page) ≡ true = ap (matches test) (sym c.name_of.ensures) ∙ sym c.is_match.ensures ∙ c.if-is_match.true in
    only_one page test c.args.nth at child c.loop-i.i c.loop-i.count c.loop-i.invariant.count there c.children_of-i-end.result c.children_of-i-end.ensures (omega arith) fits
    c.if-count-nth.true c.loop-i.invariant.none

pub loop-i-preserved : goal.loop-i-preserved
loop-i-preserved c =
    let page = c.args.page.now in
    let at = place_numbered c.args.at page in
    let test = test_in c.args.test.now in
    let child = place_numbered c.loop-i.sibling page in
    let before = c.loop-i.count in
    let there = c.loop-i.invariant.child (omega (arith, c.children_of-i-end.ensures)) in
    let fits : matches test (name_at child page) ≡ c.is_match.result = ap (matches test) (sym c.name_of.ensures) ∙ sym c.is_match.ensures in
    let counts = counted page (step_for c.args.test.now (Some c.args.nth)) [] at child c.loop-i.i before c.loop-i.invariant.count there in
    let none = none_yet page test c.args.nth at child c.loop-i.i before c.loop-i.invariant.count there in
    record {
      few = elim c.if-is_match.branch [ then-is_match+else-count-nth w ↦ omega arith | else-is_match w ↦ omega arith ];
      count = elim c.if-is_match.branch [
        | then-is_match+else-count-nth w ↦ w.count-is ∙ counts true (sym (fits ∙ w.if-is_match.true))
        | else-is_match w ↦ w.count-is ∙ sym (add-zero before) ∙ counts false (sym (fits ∙ w.if-is_match.false))
      ];
      child = λ more. c.nodes_under-sibling-in-loop-i.ensures.next at c.loop-i.i there (omega (arith, more)) ∙ ap (λ k. at ++ k ∷ []) (sym (add-one c.loop-i.i));
      none = elim c.if-is_match.branch [
        | then-is_match+else-count-nth w ↦
            none (and_right (matches test (name_at child page)) (is_nth (Some c.args.nth) before) (ne_eqb c.args.nth (suc before) (λ e. w.if-count-nth.false (omega (arith, e))))) c.loop-i.invariant.none
        | else-is_match w ↦ none (ap (λ m. m && is_nth (Some c.args.nth) before) (fits ∙ w.if-is_match.false)) c.loop-i.invariant.none
      ];
    }
