use Rattle.std.proofs.Common.{sym, ap}
use Rattle.page_tree.proofs.RowLaws.{linked_there, no_own, text_there, own_there}
use Rattle.page_tree.proofs.table.NodeTable.children.Goals as goal

pub own_row-requires-clause-linked : goal.own_row-requires-clause-linked
own_row-requires-clause-linked c = rw (c.as_slice.ensures.value, c.as_slice-2.ensures.value) (linked_there c.self.inside c.args.number c.self.invariant)

pub returns-in-None : goal.returns-in-None
returns-in-None c =
    (ap (λ l. l.children) (sym (text_there c.self.inside c.args.self.now c.args.number c.self.view_is c.requires
    (no_own _ _ (rw (c.as_slice.ensures.value, c.as_slice-2.ensures.value) at c.in-None.ensures)))))

pub returns-in-Some : goal.returns-in-Some
returns-in-Some c =
    ap (λ l. l.children) (sym (own_there c.self.inside c.args.self.now c.args.number c.in-Some.own c.self.view_is c.requires
    (rw (c.as_slice.ensures.value, c.as_slice-2.ensures.value) at c.in-Some.ensures)))
