use Rattle.std.specs.Arc.{arc_value}
use Rattle.page_tree.specs.Number.{place_numbered}
use Rattle.page_looks.proofs.GoodLaws.{hidden_alike, nothing_alike, something_alike}
use Rattle.page_looks.proofs.beside.Beside.has_look.Goals as goal

pub returns-in_default : goal.returns-in_default
returns-in_default c =
    let ((known, apart, ranked, also), sent) = c.self.invariant in
    rw (← c.self.view_is)
    (hidden_alike c.self.inside.recorded c.self.inside.repaired.now (place_numbered c.args.number c.self.inside.recorded)
    (λ s. c.in_default.ensures c.self.inside.recorded known s ranked))

pub returns-in-None : goal.returns-in-None
returns-in-None c =
    let ((known, apart, ranked, also), sent) = c.self.invariant in
    rw (← c.self.view_is)
    (nothing_alike c.self.inside.fresh.now c.self.inside.recorded c.self.inside.repaired.now c.self.inside.old (arc_value c.self.inside.new) c.self.inside.old_sent
    (arc_value c.self.inside.new_sent) c.args.number c.in-Some.rank c.self.invariant (c.in-Some.ensures c.self.inside.recorded known ranked) (rw c.deref.ensures at c.in-None.ensures))

pub returns-in-Some-first_alike : goal.returns-in-Some-first_alike
returns-in-Some-first_alike c =
    let ((known, apart, ranked, also), sent) = c.self.invariant in
    let (n, at, first) = rw c.deref.ensures at c.in-Some-first_alike.ensures in
    rw (← c.self.view_is)
    (something_alike c.self.inside.fresh.now c.self.inside.recorded c.self.inside.repaired.now c.self.inside.old (arc_value c.self.inside.new) c.self.inside.old_sent
    (arc_value c.self.inside.new_sent) c.args.number c.in-Some.rank n c.in-Some-first_alike._first c.self.invariant
    (c.in-Some.ensures c.self.inside.recorded known ranked) at first)
