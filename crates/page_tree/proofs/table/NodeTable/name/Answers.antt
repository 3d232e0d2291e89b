use Rattle.std.proofs.Common.{sym, ap}
use Rattle.page_tree.proofs.RowLaws.{text_there, element_there}
use Rattle.page_tree.proofs.table.NodeTable.name.Goals as goal

pub returns-in-None : goal.returns-in-None
returns-in-None c = ap (λ l. l.name) (sym (text_there c.self.inside c.args.self.now c.args.number c.self.view_is c.requires (rw c.as_slice.ensures.value at (sym c.in-None.ensures))))

pub returns-in-Some : goal.returns-in-Some
returns-in-Some c =
    rw c.get.ensures (ap (λ l. l.name) (sym (element_there c.self.inside c.args.self.now c.args.number c.self.view_is c.requires c.in-Some._own
    (rw c.as_slice.ensures.value at (sym c.in-Some.ensures)))))
