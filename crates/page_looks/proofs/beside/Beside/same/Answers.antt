use Rattle.std.specs.Arc.{arc_value}
use Rattle.std.proofs.Common.{sym}
use Rattle.page_tree.specs.Number.{place_numbered}
use Rattle.page_looks.proofs.CounterpartLaws.{same_place_none}
use Rattle.page_looks.proofs.FindLaws.{nearest_counterpart}
use Rattle.page_looks.proofs.SameLaws.{found_place, found_none, found_sends}
use Rattle.page_looks.proofs.beside.Beside.same.Goals as goal

pub nearest_anchor-requires : goal.nearest_anchor-requires
nearest_anchor-requires c = record { known = rw c.deref.ensures (c.self.invariant.0) }

pub overflow_sub-rank : goal.overflow_sub-rank
overflow_sub-rank c = (nearest_counterpart c.self.inside.recorded c.self.inside.repaired.now c.args.number c.in-Some.anchor c.in-Some.ensures).0

pub returns-in_default-clause-place : goal.returns-in_default-clause-place
returns-in_default-clause-place c =
    rw (← c.self.view_is)
    (sym (same_place_none c.self.inside.recorded c.self.inside.repaired.now (place_numbered c.args.number c.self.inside.recorded) c.in_default.ensures))

pub returns-in-None-clause-place : goal.returns-in-None-clause-place
returns-in-None-clause-place c =
    rw (← c.self.view_is)
    (found_none c.self.inside.fresh.now c.self.inside.recorded c.self.inside.repaired.now c.self.inside.old (arc_value c.self.inside.new) c.self.inside.old_sent
    (arc_value c.self.inside.new_sent) c.args.number c.in-Some.anchor c.self.invariant c.in-Some.ensures (rw (c.as_slice-3.ensures.value, c.deref-3.ensures) at c.in-None.ensures))

pub returns-in-Some-number_at-clause-there : goal.returns-in-Some-number_at-clause-there
returns-in-Some-number_at-clause-there c =
    rw (← c.self.view_is)
    (found_place c.self.inside.fresh.now c.self.inside.recorded c.self.inside.repaired.now c.self.inside.old (arc_value c.self.inside.new) c.self.inside.old_sent
    (arc_value c.self.inside.new_sent) c.args.number c.in-Some-number_at.found c.in-Some.anchor c.self.invariant c.in-Some.ensures
    (rw (c.as_slice-3.ensures.value, c.deref-3.ensures) at c.in-Some-number_at.ensures)).0

pub returns-in-Some-number_at-clause-place : goal.returns-in-Some-number_at-clause-place
returns-in-Some-number_at-clause-place c =
    rw (← c.self.view_is)
    (found_place c.self.inside.fresh.now c.self.inside.recorded c.self.inside.repaired.now c.self.inside.old (arc_value c.self.inside.new) c.self.inside.old_sent
    (arc_value c.self.inside.new_sent) c.args.number c.in-Some-number_at.found c.in-Some.anchor c.self.invariant c.in-Some.ensures
    (rw (c.as_slice-3.ensures.value, c.deref-3.ensures) at c.in-Some-number_at.ensures)).1

pub returns-in-Some-number_at-clause-sending : goal.returns-in-Some-number_at-clause-sending
returns-in-Some-number_at-clause-sending c =
    rw (← c.self.view_is)
    (rw (c.is_one_number-sending.ensures, c.number_at-was.ensures, c.number_at-is.ensures, c.as_slice.ensures.value, c.as_slice-2.ensures.value, c.deref-2.ensures)
    (found_sends c.self.inside.fresh.now c.self.inside.recorded c.self.inside.repaired.now c.self.inside.old (arc_value c.self.inside.new) c.self.inside.old_sent
    (arc_value c.self.inside.new_sent) c.args.number c.in-Some.anchor c.self.invariant c.in-Some.ensures))
