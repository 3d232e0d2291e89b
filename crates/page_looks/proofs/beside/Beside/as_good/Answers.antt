use Rattle.std.specs.Arc.{arc_value}
use Rattle.std.proofs.Common.{◌≡◌, ◌∙◌, sym, Some, slice_get}
use Rattle.page_tree.specs.Number.{place_numbered}
use Rattle.page_looks.proofs.GoodLaws.{hidden_good, good_lookless, good_absent, first_is, good_is, good_not}
use Rattle.page_looks.proofs.beside.Beside.as_good.Goals as goal

pub returns-in_default-clause-place : goal.returns-in_default-clause-place
returns-in_default-clause-place c =
    let ((known, apart, ranked, also), sent) = c.self.invariant in
    rw (← c.self.view_is)
    (hidden_good c.self.inside.fresh.now c.self.inside.recorded c.self.inside.repaired.now (place_numbered c.args.number c.self.inside.recorded)
    (λ s. c.in_default.ensures c.self.inside.recorded known s ranked))

pub returns-in_default-number_at-clause-place : goal.returns-in_default-number_at-clause-place
returns-in_default-number_at-clause-place c =
    let ((known, apart, ranked, also), sent) = c.self.invariant in
    rw (← c.self.view_is)
    (good_lookless c.self.inside.fresh.now c.self.inside.recorded c.self.inside.repaired.now c.self.inside.old (arc_value c.self.inside.new) c.self.inside.old_sent
    (arc_value c.self.inside.new_sent) c.args.number c.in-Some.rank c.self.invariant (c.in-Some.ensures c.self.inside.recorded known ranked)
    (rw c.as_slice.ensures.value at c.in_default-number_at.ensures))

pub returns-in_default-first_alike-clause-place : goal.returns-in_default-first_alike-clause-place
returns-in_default-first_alike-clause-place c =
    let ((known, apart, ranked, also), sent) = c.self.invariant in
    rw (← c.self.view_is)
    (good_absent c.self.inside.fresh.now c.self.inside.recorded c.self.inside.repaired.now c.self.inside.old (arc_value c.self.inside.new) c.self.inside.old_sent
    (arc_value c.self.inside.new_sent) c.args.number c.in-Some.rank c.self.invariant (c.in-Some.ensures c.self.inside.recorded known ranked)
    (rw c.deref.ensures at c.in_default-first_alike.ensures))

pub returns-then-all_send_alike-clause-there : goal.returns-then-all_send_alike-clause-there
returns-then-all_send_alike-clause-there c =
    let ((known, apart, ranked, also), sent) = c.self.invariant in
    let at : slice_get c.self.inside.old.looks.items c.in-Some.rank ≡ Some c.in-Some-number_at.look = rw c.as_slice.ensures.value at (sym c.in-Some-number_at.ensures) in
    let first = first_is c.self.inside.old.looks.items (arc_value c.self.inside.new).looks.items c.in-Some.rank c.in-Some-number_at.look c.in-Some-first_alike.first at
    (rw c.deref.ensures at c.in-Some-first_alike.ensures) in
    rw (← c.self.view_is)
    (good_is c.self.inside.fresh.now c.self.inside.recorded c.self.inside.repaired.now c.self.inside.old (arc_value c.self.inside.new) c.self.inside.old_sent
    (arc_value c.self.inside.new_sent) c.args.number c.in-Some.rank c.in-Some-number_at.look c.in-Some-first_alike.first c.number_at-then-all_send_alike.result
    c.self.invariant (c.in-Some.ensures c.self.inside.recorded known ranked) at first (sym c.if-all_send_alike.true ∙ (rw c.deref-2.ensures at c.all_send_alike.ensures))
    (rw (c.as_slice-then-all_send_alike.ensures.value, c.deref-then-all_send_alike.ensures) at c.number_at-then-all_send_alike.ensures)).0

pub returns-then-all_send_alike-clause-place : goal.returns-then-all_send_alike-clause-place
returns-then-all_send_alike-clause-place c =
    let ((known, apart, ranked, also), sent) = c.self.invariant in
    let at : slice_get c.self.inside.old.looks.items c.in-Some.rank ≡ Some c.in-Some-number_at.look = rw c.as_slice.ensures.value at (sym c.in-Some-number_at.ensures) in
    let first = first_is c.self.inside.old.looks.items (arc_value c.self.inside.new).looks.items c.in-Some.rank c.in-Some-number_at.look c.in-Some-first_alike.first at
    (rw c.deref.ensures at c.in-Some-first_alike.ensures) in
    rw (← c.self.view_is)
    (good_is c.self.inside.fresh.now c.self.inside.recorded c.self.inside.repaired.now c.self.inside.old (arc_value c.self.inside.new) c.self.inside.old_sent
    (arc_value c.self.inside.new_sent) c.args.number c.in-Some.rank c.in-Some-number_at.look c.in-Some-first_alike.first c.number_at-then-all_send_alike.result
    c.self.invariant (c.in-Some.ensures c.self.inside.recorded known ranked) at first (sym c.if-all_send_alike.true ∙ (rw c.deref-2.ensures at c.all_send_alike.ensures))
    (rw (c.as_slice-then-all_send_alike.ensures.value, c.deref-then-all_send_alike.ensures) at c.number_at-then-all_send_alike.ensures)).1

pub returns-else-all_send_alike-clause-place : goal.returns-else-all_send_alike-clause-place
returns-else-all_send_alike-clause-place c =
    let ((known, apart, ranked, also), sent) = c.self.invariant in
    let at : slice_get c.self.inside.old.looks.items c.in-Some.rank ≡ Some c.in-Some-number_at.look = rw c.as_slice.ensures.value at (sym c.in-Some-number_at.ensures) in
    let first = first_is c.self.inside.old.looks.items (arc_value c.self.inside.new).looks.items c.in-Some.rank c.in-Some-number_at.look c.in-Some-first_alike.first at
    (rw c.deref.ensures at c.in-Some-first_alike.ensures) in
    rw (← c.self.view_is)
    (good_not c.self.inside.fresh.now c.self.inside.recorded c.self.inside.repaired.now c.self.inside.old (arc_value c.self.inside.new) c.self.inside.old_sent
    (arc_value c.self.inside.new_sent) c.args.number c.in-Some.rank c.in-Some-number_at.look c.in-Some-first_alike.first c.self.invariant
    (c.in-Some.ensures c.self.inside.recorded known ranked) at first (sym c.if-all_send_alike.false ∙ (rw c.deref-2.ensures at c.all_send_alike.ensures)))
