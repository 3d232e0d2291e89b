use Rattle.std.proofs.Common.{sym, arith}
use Rattle.page_tree.proofs.RowLaws.{line_counted, text_counted}
use Rattle.page_tree.proofs.table.NodeTable.set_children.Goals as goal

pub index_mut-requires : goal.index_mut-requires
index_mut-requires c = omega (arith, c.self.invariant.linked c.args.number c.in-Some.own (rw c.as_slice.ensures.value at (sym c.in-Some.ensures)))

pub invariant_of-self : goal.invariant_of-self
invariant_of-self c =
    (line_counted c.self.inside c.args.self.now c.args.number c.in-Some.own c.index_mut.result.now c.self.invariant c.self.view_is c.requires
    (rw c.as_slice.ensures.value at (sym c.in-Some.ensures)) c.index_mut.ensures.value c.args.count).1

pub returns-in-Some : goal.returns-in-Some
returns-in-Some c =
    (line_counted c.self.inside c.args.self.now c.args.number c.in-Some.own c.index_mut.result.now c.self.invariant c.self.view_is c.requires
    (rw c.as_slice.ensures.value at (sym c.in-Some.ensures)) c.index_mut.ensures.value c.args.count).0

pub returns-in_default : goal.returns-in_default
returns-in_default c =
    text_counted c.self.inside c.args.self.now c.args.number c.self.view_is c.requires (rw c.as_slice.ensures.value at (sym c.in_default.ensures)) _
