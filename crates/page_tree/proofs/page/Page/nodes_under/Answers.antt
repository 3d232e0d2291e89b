use Rattle.std.proofs.Common.{◌≡◌, ◌+◌, suc, arith}
use Rattle.page_tree.proofs.NodesUnder.{under_there}
use Rattle.page_tree.proofs.page.Page.nodes_under.Goals as goal

pub returns-in-Some-clause-under : goal.returns-in-Some-clause-under
returns-in-Some-clause-under c =
    let next : c.args.number + 1 ≡ suc c.args.number = omega arith in
    rw (next, c.end_of.ensures, c.in-Some.ensures.index.0)
    (under_there c.table.result.now c.args.self.now c.args.number c.table.ensures.lines c.in-Some.ensures.index.1)
