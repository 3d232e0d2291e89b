use Rattle.std.proofs.Common.{rules, ◌+◌, ◌<◌, length, drop, arith, ap, sym, ◌∙◌}
use Rattle.page_tree.specs.Limits.{nodes}
use Rattle.page_tree.specs.Seen.{plain_tree, plain_trees}
use Rattle.page_tree.proofs.Counting.{count-all_seen, count-nodes}
use Rattle.page_tree.proofs.BuildingLaws.{seen-Element, seen_next, element_size, element_built, adding_next}
use Rattle.page_tree.proofs.building.+building.Goals as goal

pub add_children-loop-child-preserved : goal.add_children-loop-child-preserved
add_children-loop-child-preserved t c =
    let inside : c.loop-child.child-index < length c.args.children.now = search rules in
    let split = seen_next c.args.children.now c.loop-child.child-index c.child-item.result inside c.child-item.is in
    adding_next c.args.table.now c.loop-child.table c.add_node.new.table c.args.parent c.loop-child.position (plain_trees c.args.children.now)
    (plain_trees (drop (c.loop-child.child-index + 1) c.args.children.now)) (plain_tree c.child-item.result)
    c.in_ok-add_node.ensures (rw split at c.loop-child.invariant)

pub add_node-overflow_cast-as_slice : goal.add_node-overflow_cast-as_slice
add_node-overflow_cast-as_slice t c =
    let is = ap plain_tree c.in-Element.is ∙ seen-Element c.in-Element.name c.in-Element.attributes c.in-Element.children in
    omega (arith, ap nodes is, count-nodes (plain_trees c.in-Element.children.items), count-all_seen c.in-Element.children.items, c.as_slice-in-Element.ensures.len, c.requires.few)

pub add_node-end-requires-clause-few : goal.add_node-end-requires-clause-few
add_node-end-requires-clause-few t c =
    let is = ap plain_tree c.in-Element.is ∙ seen-Element c.in-Element.name c.in-Element.attributes c.in-Element.children in
    omega (
      arith,
      ap nodes is,
      c.requires.few,
      element_size c.as_str-in-Element.result.now c.as_slice.result.now (plain_trees c.in-Element.children.items) c.args.spot (length c.as_slice-in-Element.result.now) c.len-number.result
          c.args.table.now c.push_element.new.self c.add_children.new.table c.in_ok-push_element-in-Element.ensures
          (rw c.as_slice-in-Element-2.ensures.value at c.in_ok-add_children-in-Element.ensures),
    )

pub add_node-returns-in_ok-add_children-in-Element : goal.add_node-returns-in_ok-add_children-in-Element
add_node-returns-in_ok-add_children-in-Element t c =
    rw (ap plain_tree c.in-Element.is ∙ seen-Element c.in-Element.name c.in-Element.attributes c.in-Element.children)
    (c.end.ensures ∙ element_built c.in-Element.name c.in-Element.attributes (plain_trees c.in-Element.children.items) c.args.spot (length c.as_slice-in-Element.result.now)
    c.len-number.result c.args.table.now c.push_element.new.self c.add_children.new.table
    (ap length c.as_slice-in-Element.ensures.value ∙ sym (count-all_seen c.in-Element.children.items)) c.len-number.ensures
    (rw (c.as_str-in-Element.ensures, c.as_slice.ensures) at c.in_ok-push_element-in-Element.ensures)
    (rw c.as_slice-in-Element-2.ensures.value at c.in_ok-add_children-in-Element.ensures))
