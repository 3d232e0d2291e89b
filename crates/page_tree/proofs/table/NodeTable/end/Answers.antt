use Rattle.std.proofs.Common.{sym, ◌∙◌, ap, arith}
use Rattle.page_tree.proofs.RowLaws.{line_ended, text_ended}
use Rattle.page_tree.specs.inside.Rows.{with_line_end}
use Rattle.page_tree.proofs.table.NodeTable.end.Goals as goal

pub index_mut-requires : goal.index_mut-requires
index_mut-requires c = omega (arith, c.self.invariant.linked c.args.number c.in-Some.own (rw c.as_slice.ensures.value at (sym c.in-Some.ensures)))

pub invariant_of-self : goal.invariant_of-self
invariant_of-self c =
    (line_ended c.self.inside c.args.self.now c.args.number c.in-Some.own c.index_mut.result.now c.self.invariant c.self.view_is c.requires.there
    (rw c.as_slice.ensures.value at (sym c.in-Some.ensures)) c.index_mut.ensures.value c.len-end.result).1

pub returns-in-Some : goal.returns-in-Some
returns-in-Some c =
    (line_ended c.self.inside c.args.self.now c.args.number c.in-Some.own c.index_mut.result.now c.self.invariant c.self.view_is c.requires.there
    (rw c.as_slice.ensures.value at (sym c.in-Some.ensures)) c.index_mut.ensures.value c.len-end.result).0
    ∙ ap (λ e. with_line_end c.args.number e c.args.self.now) c.len-end.ensures

pub returns-in_default : goal.returns-in_default
returns-in_default c =
    text_ended c.self.inside c.args.self.now c.args.number c.self.view_is c.requires.there (rw c.as_slice.ensures.value at (sym c.in_default.ensures)) _
