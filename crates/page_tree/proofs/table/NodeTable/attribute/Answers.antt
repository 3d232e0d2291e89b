use Rattle.std.proofs.Common.{sym, ◌∙◌, ap}
use Rattle.page_tree.specs.Limits.{have_ascending_names}
use Rattle.page_tree.specs.Look.{value_of}
use Rattle.page_tree.proofs.RowLaws.{linked_there, within_there, no_own, text_there, own_there}
use Rattle.page_tree.proofs.table.NodeTable.attribute.Goals as goal

pub own_row-requires-clause-linked : goal.own_row-requires-clause-linked
own_row-requires-clause-linked c = rw (c.as_slice.ensures.value, c.as_slice-2.ensures.value) (linked_there c.self.inside c.args.number c.self.invariant)

pub value_among-requires-clause-within : goal.value_among-requires-clause-within
value_among-requires-clause-within c =
    within_there c.self.inside c.args.number c.in-Some.own c.self.invariant (rw (c.as_slice.ensures.value, c.as_slice-2.ensures.value) at c.in-Some.ensures)

pub value_among-requires-clause-ascending : goal.value_among-requires-clause-ascending
value_among-requires-clause-ascending c =
    ap (λ l. have_ascending_names l.attributes) (sym (own_there c.self.inside c.args.self.now c.args.number c.in-Some.own c.self.view_is c.requires.there
    (rw (c.as_slice.ensures.value, c.as_slice-2.ensures.value) at c.in-Some.ensures)))
    ∙ c.requires.ascending

pub returns-in-None : goal.returns-in-None
returns-in-None c =
    ap (λ l. value_of c.args.name.now l.attributes) (sym (text_there c.self.inside c.args.self.now c.args.number c.self.view_is c.requires.there
    (no_own _ _ (rw (c.as_slice.ensures.value, c.as_slice-2.ensures.value) at c.in-None.ensures))))

pub returns-in-Some : goal.returns-in-Some
returns-in-Some c =
    c.value_among.ensures ∙ ap (λ l. value_of c.args.name.now l.attributes) (sym (own_there c.self.inside c.args.self.now c.args.number c.in-Some.own c.self.view_is c.requires.there
    (rw (c.as_slice.ensures.value, c.as_slice-2.ensures.value) at c.in-Some.ensures)))
