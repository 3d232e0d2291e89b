use Rattle.std.specs.Arc.{arc_value}
use Rattle.page_looks.proofs.GoodLaws.{own_alike}
use Rattle.page_looks.proofs.beside.Beside.sends_alike.Goals as goal

pub returns : goal.returns
returns c =
    rw (← c.self.view_is, c.own_at.ensures, c.own_at-2.ensures, c.deref.ensures)
    (own_alike c.self.inside.fresh.now c.self.inside.recorded c.self.inside.repaired.now c.self.inside.old (arc_value c.self.inside.new) c.self.inside.old_sent
    (arc_value c.self.inside.new_sent) c.args.was c.args.is c.self.invariant)
