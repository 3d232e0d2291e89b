use Rattle.std.proofs.Common.{rules, ◌≡◌, ◌<◌, ◌≤◌, ◌+◌, length, drop, None, arith, ap, sym, ◌∙◌}
use Rattle.std.proofs.lemmas.Result.{err_from_is_err_and}
use Rattle.std.proofs.lemmas.List.{length-set}
use Rattle.serde_json.specs.Find.{as_str}
use Rattle.serde_json.specs.View.{view, items_view}
use Rattle.page_tree.specs.Fault.{first_fault}
use Rattle.page_tree.proofs.Faults.{is_string, is_object, many_said, own_said, text_passes, no_node, too_deep, bad_name, bad_attribute, bad_children}
use Rattle.page_tree.proofs.ReadingLaws.{one_row, text_read, element_read, element_judged, read_step, read_end, items_next, items_end}
use Rattle.page_tree.proofs.reading.+reading.Goals as goal

-- ---- a node

pub read_node-returns-then-len-clause-judged : goal.read_node-returns-then-len-clause-judged
read_node-returns-then-len-clause-judged t c =
    λ real later. many_said c.args.levels (length c.args.table.now) (view c.args.value.now) later (omega (arith, c.if-len.true, c.len.ensures))

pub read_node-returns-in-Some-clause-judged : goal.read_node-returns-in-Some-clause-judged
read_node-returns-in-Some-clause-judged t c =
    let is = is_string (view c.args.value.now) c.in-Some.text.now (sym c.in-Some.ensures) in
    λ later. rw is (text_passes c.args.levels (length c.args.table.now) c.in-Some.text.now later (omega (arith, c.if-len.false, c.len.ensures)))
    ∙ ap (λ k. first_fault k later) (sym (one_row c.args.table.now c.push_words.new.self _ c.in_ok-push_words.ensures))

pub read_node-returns-in-Some-clause-added : goal.read_node-returns-in-Some-clause-added
read_node-returns-in-Some-clause-added t c =
    text_read (view c.args.value.now) c.in-Some.text.now c.args.spot c.args.table.now c.push_words.new.self
    (is_string (view c.args.value.now) c.in-Some.text.now (sym c.in-Some.ensures)) (omega (arith, c.if-len.false, c.len.ensures)) c.in_ok-push_words.ensures

pub read_node-returns-in-None-clause-judged : goal.read_node-returns-in-None-clause-judged
read_node-returns-in-None-clause-judged t c =
    let none : as_str (view c.args.value.now) ≡ None = search rules in
    λ real later. own_said c.args.levels (length c.args.table.now) (view c.args.value.now) _ later (omega (arith, c.if-len.false, c.len.ensures))
    (no_node c.args.levels (view c.args.value.now) none (sym c.in-None.ensures))

-- ---- an element

pub read_object-returns-then-levels-eq0-clause-judged : goal.read_object-returns-then-levels-eq0-clause-judged
read_object-returns-then-levels-eq0-clause-judged t c =
    λ real later. rw c.if-levels-eq0.true (own_said 0 (length c.args.table.now) (view c.args.value.now) _ later c.requires.few (too_deep (view c.args.value.now) c.requires.object))

pub read_object-returns-in_err-name-clause-judged : goal.read_object-returns-in_err-name-clause-judged
read_object-returns-in_err-name-clause-judged t c =
    let p = err_from_is_err_and c.from_residual.result c.from_residual.ensures.1 in
    rw (p.1, p.2) (λ real later.
    let (is, bad) = c.in_err-name.ensures real in
    rw is (own_said c.args.levels (length c.args.table.now) (view c.args.value.now) _ later c.requires.few
    (bad_name c.args.levels (omega (arith, c.if-levels-eq0.false)) (view c.args.value.now) c.requires.object bad)))

pub read_object-returns-in_err-attributes-clause-judged : goal.read_object-returns-in_err-attributes-clause-judged
read_object-returns-in_err-attributes-clause-judged t c =
    let p = err_from_is_err_and c.from_residual-in_err-attributes.result c.from_residual-in_err-attributes.ensures.1 in
    rw (p.1, p.2) (λ real later.
    let (is, bad) = c.in_err-attributes.ensures real in
    rw is (own_said c.args.levels (length c.args.table.now) (view c.args.value.now) _ later c.requires.few
    (bad_attribute c.args.levels (omega (arith, c.if-levels-eq0.false)) c.in_ok-name.name.now c.in_ok-name.ensures.1 (view c.args.value.now) c.requires.object c.in_ok-name.ensures.0 bad)))

pub read_object-returns-in_err-children-clause-judged : goal.read_object-returns-in_err-children-clause-judged
read_object-returns-in_err-children-clause-judged t c =
    let p = err_from_is_err_and c.from_residual-in_err-children.result c.from_residual-in_err-children.ensures.1 in
    rw (p.1, p.2) (λ real later.
    let (is, bad) = c.in_err-children.ensures real in
    rw is (own_said c.args.levels (length c.args.table.now) (view c.args.value.now) _ later c.requires.few
    (bad_children c.args.levels (omega (arith, c.if-levels-eq0.false)) c.in_ok-name.name.now c.in_ok-name.ensures.1 c.in_ok-attributes.attributes c.in_ok-attributes.ensures.1
    (view c.args.value.now) c.requires.object c.in_ok-name.ensures.0 c.in_ok-attributes.ensures.0 bad)))

pub read_object-returns-in_err-read_items-clause-judged : goal.read_object-returns-in_err-read_items-clause-judged
read_object-returns-in_err-read_items-clause-judged t c =
    let p = err_from_is_err_and c.from_residual-in_err-read_items.result c.from_residual-in_err-read_items.ensures.1 in
    rw (p.1, p.2) (λ real later.
    element_judged c.args.levels (view c.args.value.now) c.args.table.now c.push_element.new.self _ c.in_ok-name.name.now c.in_ok-attributes.attributes
    (items_view c.in_ok-children.children.now) (omega (arith, c.if-levels-eq0.false)) c.requires.few c.requires.object c.in_ok-name.ensures c.in_ok-attributes.ensures
    c.in_ok-children.ensures.0 c.in_ok-push_element.ensures later
    ∙ c.in_err-read_items.ensures.judged real later)

pub read_object-returns-clause-judged : goal.read_object-returns-clause-judged
read_object-returns-clause-judged t c =
    let size = ap length c.end.ensures ∙ length-set c.read_items.new.table c.len-number.result _ in
    λ later. element_judged c.args.levels (view c.args.value.now) c.args.table.now c.push_element.new.self _ c.in_ok-name.name.now c.in_ok-attributes.attributes
    (items_view c.in_ok-children.children.now) (omega (arith, c.if-levels-eq0.false)) c.requires.few c.requires.object c.in_ok-name.ensures c.in_ok-attributes.ensures
    c.in_ok-children.ensures.0 c.in_ok-push_element.ensures later
    ∙ c.in_ok-read_items.ensures.judged later ∙ ap (λ k. first_fault k later) (sym size)

pub read_object-returns-clause-added : goal.read_object-returns-clause-added
read_object-returns-clause-added t c =
    let (ms, is) = is_object (view c.args.value.now) c.requires.object in
    element_read (view c.args.value.now) ms c.args.spot c.len-number.result
    c.args.table.now c.push_element.new.self c.read_items.new.table c.end.new.self c.in_ok-name.name.now c.in_ok-attributes.attributes c.in_ok-children.children.now
    is c.in_ok-name.ensures.0 c.in_ok-attributes.ensures.0 c.in_ok-children.ensures.0 c.len-number.ensures
    (rw (c.as_slice.ensures, c.min-count.ensures) at c.in_ok-push_element.ensures) c.in_ok-read_items.ensures.added c.end.ensures

-- ---- children

pub read_items-loop-item-preserved : goal.read_items-loop-item-preserved
read_items-loop-item-preserved t c =
    let inside : c.loop-item.item-index < length c.args.items.now = search rules in
    let split = items_next c.args.items.now c.loop-item.item-index c.item-item.result inside c.item-item.is in
    read_step c.args.levels c.args.parent c.loop-item.position c.args.table.now c.loop-item.table c.read_node.new.table (items_view c.args.items.now)
    (items_view (drop (c.loop-item.item-index + 1) c.args.items.now)) (view c.item-item.result) c.in_ok-read_node.ensures.judged c.in_ok-read_node.ensures.added
    (rw split at c.loop-item.invariant)

pub read_items-returns-clause-added : goal.read_items-returns-clause-added
read_items-returns-clause-added t c =
    let past : length c.args.items.now ≤ c.loop-item.item-index = search rules in
    read_end c.args.levels c.args.parent c.loop-item.position c.args.table.now c.loop-item.table (items_view c.args.items.now)
    (rw (items_end c.args.items.now c.loop-item.item-index past) at c.loop-item.invariant)
