use Rattle.std.proofs.Common.{rules, ◌≡◌, ◌<◌, ◌+◌, ◌-◌, ◌++◌, suc, true, false, refl, arith, ap, ◌∙◌}
use Rattle.page_tree.specs.Name.{is_name}
use Rattle.page_tree.specs.Limits.{max_nodes, have_ascending_names}
use Rattle.page_tree.specs.Tree.{element}
use Rattle.page_tree.specs.Seen.{plain_tree, plain_trees}
use Rattle.page_tree.specs.Fault.{first_fault, all_faults, value_faults, data_of, data_of_all}
use Rattle.page_tree.proofs.Faults.{many_said, own_said, text_passes, too_deep, bad_name, bad_attribute, element_passes, judged_as}
use Rattle.page_tree.proofs.ValueLaws.{attributes_stand}
use Rattle.page_tree.proofs.BuildingLaws.{seen-Element, seen-Words}
use Rattle.page_tree.proofs.inspection.+inspection.Goals as goal

pub inspect_node-returns-then-before-ge-MAX_NODES : goal.inspect_node-returns-then-before-ge-MAX_NODES
inspect_node-returns-then-before-ge-MAX_NODES t c =
    λ real later. many_said c.args.levels c.args.before (data_of (plain_tree c.args.tree.now)) later c.if-before-ge-MAX_NODES.true

pub inspect_node-returns-in-Words : goal.inspect_node-returns-in-Words
inspect_node-returns-in-Words t c =
    let on : suc c.args.before ≡ c.args.before + 1 = omega arith in
    rw (ap plain_tree c.in-Words.is ∙ seen-Words c.in-Words._text)
    (λ later. text_passes c.args.levels c.args.before c.in-Words._text later (omega (arith, c.if-before-ge-MAX_NODES.false)) ∙ ap (λ k. first_fault k later) on)

pub inspect_node-returns-then-levels-eq0 : goal.inspect_node-returns-then-levels-eq0
inspect_node-returns-then-levels-eq0 t c =
    let d = data_of (element c.in-Element.name c.in-Element.attributes (plain_trees c.in-Element.children.items)) in
    rw (ap plain_tree c.in-Element.is ∙ seen-Element c.in-Element.name c.in-Element.attributes c.in-Element.children, c.if-levels-eq0.true)
    (λ real later. own_said 0 c.args.before d _ later (omega (arith, c.if-before-ge-MAX_NODES.false)) (too_deep d refl))

pub inspect_node-returns-then-not-is_name : goal.inspect_node-returns-then-not-is_name
inspect_node-returns-then-not-is_name t c =
    let d = data_of (element c.in-Element.name c.in-Element.attributes (plain_trees c.in-Element.children.items)) in
    let bad : is_name c.in-Element.name ≡ false = search rules in
    rw (ap plain_tree c.in-Element.is ∙ seen-Element c.in-Element.name c.in-Element.attributes c.in-Element.children)
    (λ real later. own_said c.args.levels c.args.before d _ later (omega (arith, c.if-before-ge-MAX_NODES.false))
    (bad_name c.args.levels (omega (arith, c.if-levels-eq0.false)) d refl bad))

pub inspect_node-returns-then-not-is_ascending : goal.inspect_node-returns-then-not-is_ascending
inspect_node-returns-then-not-is_ascending t c =
    let d = data_of (element c.in-Element.name c.in-Element.attributes (plain_trees c.in-Element.children.items)) in
    let passed : is_name c.in-Element.name ≡ true = search rules in
    let bad : have_ascending_names c.in-Element.attributes ≡ false = search rules in
    rw (ap plain_tree c.in-Element.is ∙ seen-Element c.in-Element.name c.in-Element.attributes c.in-Element.children)
    (λ real later. own_said c.args.levels c.args.before d _ later (omega (arith, c.if-before-ge-MAX_NODES.false))
    (bad_attribute c.args.levels (omega (arith, c.if-levels-eq0.false)) c.in-Element.name passed d refl refl (rw (attributes_stand c.in-Element.attributes) bad)))

pub inspect_node-returns-else-not-is_ascending : goal.inspect_node-returns-else-not-is_ascending
inspect_node-returns-else-not-is_ascending t c =
    let passed : is_name c.in-Element.name ≡ true = search rules in
    let ascend : have_ascending_names c.in-Element.attributes ≡ true = search rules in
    let few : c.args.before < max_nodes = omega (arith, c.if-before-ge-MAX_NODES.false) in
    let on : suc c.args.before ≡ c.args.before + 1 = omega arith in
    let children = data_of_all (plain_trees c.in-Element.children.items) in
    rw (ap plain_tree c.in-Element.is ∙ seen-Element c.in-Element.name c.in-Element.attributes c.in-Element.children)
    (judged_as (λ n. n) c.inspect_nodes.result c.args.before (c.args.before + 1) _ (all_faults (value_faults (c.args.levels - 1)) children)
    (λ later. element_passes c.args.levels (omega (arith, c.if-levels-eq0.false)) c.in-Element.name passed c.in-Element.attributes ascend _ refl refl
    (attributes_stand c.in-Element.attributes) c.args.before children later few refl
    ∙ ap (λ k. first_fault k (all_faults (value_faults (c.args.levels - 1)) children ++ later)) on)
    (rw c.as_slice.ensures.value at c.inspect_nodes.ensures))
