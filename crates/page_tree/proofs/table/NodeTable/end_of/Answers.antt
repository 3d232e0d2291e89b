use Rattle.std.proofs.Common.{◌≡◌, ◌+◌, suc, sym, ◌∙◌, ap, arith}
use Rattle.page_tree.proofs.RowLaws.{linked_there, no_own, text_there, own_there}
use Rattle.page_tree.proofs.table.NodeTable.end_of.Goals as goal

pub own_row-requires-clause-linked : goal.own_row-requires-clause-linked
own_row-requires-clause-linked c = rw (c.as_slice.ensures.value, c.as_slice-2.ensures.value) (linked_there c.self.inside c.args.number c.self.invariant)

pub returns-in-None : goal.returns-in-None
returns-in-None c =
    let next : c.args.number + 1 ≡ suc c.args.number = omega arith in
    next ∙ (ap (λ l. l.end) (sym (text_there c.self.inside c.args.self.now c.args.number c.self.view_is c.requires.there
    (no_own _ _ (rw (c.as_slice.ensures.value, c.as_slice-2.ensures.value) at c.in-None.ensures)))))

pub returns-in-Some : goal.returns-in-Some
returns-in-Some c =
    ap (λ l. l.end) (sym (own_there c.self.inside c.args.self.now c.args.number c.in-Some.own c.self.view_is c.requires.there
    (rw (c.as_slice.ensures.value, c.as_slice-2.ensures.value) at c.in-Some.ensures)))
