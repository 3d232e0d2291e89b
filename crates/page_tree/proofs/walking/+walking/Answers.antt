use Rattle.std.proofs.Common.{rules, ◌≡◌, length, None, arith, refl, ap, sym, ◌∙◌}
use Rattle.std.specs.Option.{option_map_or}
use Rattle.std.proofs.lemmas.Result.{err_from_is_err_and}
use Rattle.std.proofs.lemmas.List.{length-set}
use Rattle.serde_json.specs.Data.{object, no_items, no_members}
use Rattle.serde_json.specs.Events.{items_len}
use Rattle.serde_json.specs.Find.{as_str}
use Rattle.json_document.specs.Standing.{data_of, items_behind, members_behind, put_all}
use Rattle.page_tree.specs.Fault.{first_fault}
use Rattle.page_tree.specs.inside.Walking.{attributes_seen}
use Rattle.page_tree.proofs.Faults.{is_string, many_said, own_said, text_passes, no_node, too_deep, bad_name, bad_attribute, bad_children}
use Rattle.page_tree.proofs.ReadingLaws.{one_row, text_read, element_walked, element_judged, no_child, read_step, read_end}
use Rattle.page_tree.proofs.walking.+walking.Goals as goal

-- ---- a node

pub walk_node-returns-then-len-clause-judged : goal.walk_node-returns-then-len-clause-judged
walk_node-returns-then-len-clause-judged t c =
    λ real later. many_said c.args.levels (length c.args.table.now) (data_of c.args.place.now) later (omega (arith, c.if-len.true, c.len.ensures))

pub walk_node-returns-in-Some-clause-judged : goal.walk_node-returns-in-Some-clause-judged
walk_node-returns-in-Some-clause-judged t c =
    let is = is_string (data_of c.args.place.now) c.in-Some.text.now (sym c.in-Some.ensures) in
    λ later. rw is (text_passes c.args.levels (length c.args.table.now) c.in-Some.text.now later (omega (arith, c.if-len.false, c.len.ensures)))
    ∙ ap (λ k. first_fault k later) (sym (one_row c.args.table.now c.push_words.new.self _ c.in_ok-push_words.ensures))

pub walk_node-returns-in-Some-clause-added : goal.walk_node-returns-in-Some-clause-added
walk_node-returns-in-Some-clause-added t c =
    text_read (data_of c.args.place.now) c.in-Some.text.now c.args.spot c.args.table.now c.push_words.new.self
    (is_string (data_of c.args.place.now) c.in-Some.text.now (sym c.in-Some.ensures)) (omega (arith, c.if-len.false, c.len.ensures)) c.in_ok-push_words.ensures

pub walk_node-returns-in-None-clause-judged : goal.walk_node-returns-in-None-clause-judged
walk_node-returns-in-None-clause-judged t c =
    let none : as_str (data_of c.args.place.now) ≡ None = search rules in
    λ real later. own_said c.args.levels (length c.args.table.now) (data_of c.args.place.now) _ later (omega (arith, c.if-len.false, c.len.ensures))
    (no_node c.args.levels (data_of c.args.place.now) none (sym c.in-None.ensures))

-- ---- an element

pub walk_element-returns-then-levels-eq0-clause-judged : goal.walk_element-returns-then-levels-eq0-clause-judged
walk_element-returns-then-levels-eq0-clause-judged t c =
    let d = object (put_all (members_behind c.args.members) no_members) in
    λ real later. rw c.if-levels-eq0.true (own_said 0 (length c.args.table.now) d _ later c.requires.few (too_deep d refl))

pub walk_element-returns-in_err-name-clause-judged : goal.walk_element-returns-in_err-name-clause-judged
walk_element-returns-in_err-name-clause-judged t c =
    let d = object (put_all (members_behind c.args.members) no_members) in
    let p = err_from_is_err_and c.from_residual.result c.from_residual.ensures.1 in
    rw (p.1, p.2) (λ real later.
    let (is, bad) = c.in_err-name.ensures d c.of-parts.ensures real in
    rw is (own_said c.args.levels (length c.args.table.now) d _ later c.requires.few
    (bad_name c.args.levels (omega (arith, c.if-levels-eq0.false)) d refl bad)))

pub walk_element-returns-in_err-attributes-clause-judged : goal.walk_element-returns-in_err-attributes-clause-judged
walk_element-returns-in_err-attributes-clause-judged t c =
    let d = object (put_all (members_behind c.args.members) no_members) in
    let p = err_from_is_err_and c.from_residual-in_err-attributes.result c.from_residual-in_err-attributes.ensures.1 in
    let named = c.in_ok-name.ensures d c.of-parts.ensures in
    rw (p.1, p.2) (λ real later.
    let (is, bad) = c.in_err-attributes.ensures d c.of-parts.ensures real in
    rw is (own_said c.args.levels (length c.args.table.now) d _ later c.requires.few
    (bad_attribute c.args.levels (omega (arith, c.if-levels-eq0.false)) c.in_ok-name.name.now named.1 d refl named.0 bad)))

pub walk_element-returns-in_err-children-clause-judged : goal.walk_element-returns-in_err-children-clause-judged
walk_element-returns-in_err-children-clause-judged t c =
    let d = object (put_all (members_behind c.args.members) no_members) in
    let p = err_from_is_err_and c.from_residual-in_err-children.result c.from_residual-in_err-children.ensures.1 in
    let named = c.in_ok-name.ensures d c.of-parts.ensures in
    let given = c.in_ok-attributes.ensures d c.of-parts.ensures in
    rw (p.1, p.2) (λ real later.
    let (is, bad) = c.in_err-children.ensures d c.of-parts.ensures real in
    rw is (own_said c.args.levels (length c.args.table.now) d _ later c.requires.few
    (bad_children c.args.levels (omega (arith, c.if-levels-eq0.false)) c.in_ok-name.name.now named.1 (attributes_seen c.in_ok-attributes.attributes.items) given.1
    d refl named.0 given.0 bad)))

pub walk_element-returns-in_err-count-clause-judged : goal.walk_element-returns-in_err-count-clause-judged
walk_element-returns-in_err-count-clause-judged t c =
    let d = object (put_all (members_behind c.args.members) no_members) in
    let p = err_from_is_err_and c.from_residual-in_err-count.result c.from_residual-in_err-count.ensures.1 in
    rw (p.1, p.2) (λ real later.
    element_judged c.args.levels d c.args.table.now c.push_borrowed.new.self _ c.in_ok-name.name.now (attributes_seen c.in_ok-attributes.attributes.items)
    (option_map_or items_behind c.in_ok-children.children no_items) (omega (arith, c.if-levels-eq0.false)) c.requires.few refl
    (c.in_ok-name.ensures d c.of-parts.ensures) (c.in_ok-attributes.ensures d c.of-parts.ensures)
    (c.in_ok-children.ensures d c.of-parts.ensures).0 c.in_ok-push_borrowed.ensures later
    ∙ c.in_err-count.ensures.judged real later)

pub walk_element-returns-clause-judged : goal.walk_element-returns-clause-judged
walk_element-returns-clause-judged t c =
    let d = object (put_all (members_behind c.args.members) no_members) in
    let size = ap length c.end.ensures ∙ length-set c.set_children.new.self c.len-number.result _
    ∙ ap length c.set_children.ensures ∙ length-set c.walk_items.new.table c.len-number.result _ in
    λ later. element_judged c.args.levels d c.args.table.now c.push_borrowed.new.self _ c.in_ok-name.name.now (attributes_seen c.in_ok-attributes.attributes.items)
    (option_map_or items_behind c.in_ok-children.children no_items) (omega (arith, c.if-levels-eq0.false)) c.requires.few refl
    (c.in_ok-name.ensures d c.of-parts.ensures) (c.in_ok-attributes.ensures d c.of-parts.ensures)
    (c.in_ok-children.ensures d c.of-parts.ensures).0 c.in_ok-push_borrowed.ensures later
    ∙ c.in_ok-count.ensures.judged later ∙ ap (λ k. first_fault k later) (sym size)

pub walk_element-returns-clause-added : goal.walk_element-returns-clause-added
walk_element-returns-clause-added t c =
    let ms = put_all (members_behind c.args.members) no_members in
    element_walked (object ms) ms c.args.spot c.len-number.result c.in_ok-count.count
    c.args.table.now c.push_borrowed.new.self c.walk_items.new.table c.set_children.new.self c.end.new.self c.in_ok-name.name.now
    (attributes_seen c.in_ok-attributes.attributes.items) (option_map_or items_behind c.in_ok-children.children no_items)
    refl (c.in_ok-name.ensures (object ms) c.of-parts.ensures).0 (c.in_ok-attributes.ensures (object ms) c.of-parts.ensures).0
    (c.in_ok-children.ensures (object ms) c.of-parts.ensures).0 c.len-number.ensures
    (rw c.as_slice.ensures.value at c.in_ok-push_borrowed.ensures) c.in_ok-count.ensures.added c.in_ok-count.ensures.count c.set_children.ensures c.end.ensures

-- ---- children

pub walk_items-returns-in_default-clause-added : goal.walk_items-returns-in_default-clause-added
walk_items-returns-in_default-clause-added t c =
    rw c.in_default.is (no_child c.args.parent c.args.table.now c.requires)

pub walk_items-loop-place-preserved : goal.walk_items-loop-place-preserved
walk_items-loop-place-preserved t c =
    let split = c.in-Some-next.ensures.value in
    let (s, many) = c.loop-place.invariant in (
      read_step c.args.levels c.args.parent c.loop-place.position c.args.table.now c.loop-place.table c.walk_node.new.table
          (items_behind c.in-Some.items) (items_behind c.next.new.self) (data_of c.in-Some-next.place) c.in_ok-walk_node.ensures.judged c.in_ok-walk_node.ensures.added
          (rw split at s),
      omega (arith, many, ap items_len split),
    )

pub walk_items-returns-clause-added : goal.walk_items-returns-clause-added
walk_items-returns-clause-added t c =
    rw c.in-Some.is (read_end c.args.levels c.args.parent c.loop-place.position c.args.table.now c.loop-place.table (items_behind c.in-Some.items)
    (rw c.in_default-next.ensures.value at c.loop-place.invariant.0))
