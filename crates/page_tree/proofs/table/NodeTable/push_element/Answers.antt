use Rattle.std.proofs.Common.{◌∙◌}
use Rattle.page_tree.proofs.RowLaws.{element_added}
use Rattle.page_tree.proofs.table.NodeTable.push_element.Goals as goal

pub invariant_of-self-2 : goal.invariant_of-self-2
invariant_of-self-2 c =
    let (row, rows, at, is) = c.in_ok-push_row.ensures.rows in
    rw (rows, c.in_ok-push_row.ensures.texts, c.in_ok-push_row.ensures.elements, c.in_ok-push_attributes.ensures.ok)
    (element_added c.self.inside.texts c.self.inside.attributes c.self.inside.rows.items c.self.inside.elements.items c.self.invariant c.args.spot c.args.name.now
    c.args.attributes.now (record { attributes = c.in_ok-few.field-0; attribute_count = c.in_ok-few-2.field-0; end = 0; children = c.args.children }) row at is
    (c.in_ok-few.ensures ∙ c.len.ensures) c.in_ok-few-2.ensures).1

pub returns : goal.returns
returns c =
    let (row, rows, at, is) = c.in_ok-push_row.ensures.rows in
    rw (rows, c.in_ok-push_row.ensures.texts, c.in_ok-push_row.ensures.elements, c.in_ok-push_attributes.ensures.ok, ← c.self.view_is)
    (element_added c.self.inside.texts c.self.inside.attributes c.self.inside.rows.items c.self.inside.elements.items c.self.invariant c.args.spot c.args.name.now
    c.args.attributes.now (record { attributes = c.in_ok-few.field-0; attribute_count = c.in_ok-few-2.field-0; end = 0; children = c.args.children }) row at is
    (c.in_ok-few.ensures ∙ c.len.ensures) c.in_ok-few-2.ensures).0
