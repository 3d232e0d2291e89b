use Rattle.std.proofs.Common.{arith}
use Rattle.page_tree.specs.inside.Rows.{line_in}
use Rattle.page_tree.proofs.NodesUnder.{up_there}
use Rattle.page_tree.proofs.page.Page.parent_of.Goals as goal

pub returns : goal.returns
returns c =
    let (less, place) = up_there c.table.result.now c.args.self.now c.args.number c.table.ensures.lines c.in_ok-index.ensures.index.1
    (omega (arith, c.if-number-eq0.false)) in
    rw (c.parent.ensures, c.in_ok-index.ensures.index.0) (less, ((line_in c.args.number c.table.result.now).spot.position, place))
