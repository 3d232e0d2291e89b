use Rattle.std.proofs.Common.{◌≡◌, ◌≤◌, ◌+◌, length, refl, ap, ◌∙◌, sym, subst, arith}
use Rattle.std.proofs.Math.ListN.{set}
use Rattle.conflict_desk.specs.Book.{front_visit}
use Rattle.conflict_desk.proofs.Keeping.{front_at, front_none, refused_front, accepted_front, decide_kept, settled_as}
use Rattle.conflict_desk.proofs.Fronts.{written_back}
use Rattle.conflict_desk.specs.inside.Kept.{book_in, IsKept}
use Rattle.conflict_desk.proofs.open_docket.OpenDocket.decide.Goals as goal

pub returns-then-next-as_slice-clause-refused : goal.returns-then-next-as_slice-clause-refused
returns-then-next-as_slice-clause-refused c =
    let none = front_none _ _ _ _ c.self.invariant.0 _ c.as_slice.ensures c.if-next-as_slice.true ∙ ap front_visit c.self.view_is in
    (rw (← none) refl, refl)

pub returns-then-front-visit-clause-refused : goal.returns-then-front-visit-clause-refused
returns-then-front-visit-clause-refused c = (
  refused_front _ _ c.args.self.now (front_at _ _ _ _ c.self.invariant.0 _ _ c.as_slice-2.ensures (omega (arith, c.if-next-as_slice.false, ap length c.as_slice.ensures, ap length c.as_slice-2.ensures)) ∙ ap front_visit c.self.view_is) c.if-front-visit.true,
  refl,
)

pub invariant_of-self : goal.invariant_of-self
invariant_of-self c =
    let o = c.self.inside in
    let cancelled = c.is_cancel.result in
    let written = c.as_mut_slice.result.now in
    let after = c.settle-self-inside.new.gone in
    let next = c.settle-self-inside.result in
    let long : length after ≡ o.gone.len = c.settle-self-inside.auto.gone ∙ c.as_mut_slice.ensures.len in
    let kept = decide_kept (book_in o) o.links.items o.gone.items o.next c.self.invariant.0 c.args.choice c.as_slice-2.result.now _ c.args.visit written after next
    c.as_slice-2.ensures (omega (arith, c.if-next-as_slice.false, ap length c.as_slice.ensures, ap length c.as_slice-2.ensures)) c.if-front-visit.false
    (c.as_mut_slice.ensures.value ∙ ap (set o.gone.items o.next) c.is_cancel.ensures)
    c.settle-self-inside.auto.gone c.settle-self-inside.ensures.from (subst (λ cs. next ≤ length cs) c.as_slice-3.ensures c.settle-self-inside.ensures.within)
    (settled_as o.cases c.as_slice-3.result.now o.links.items c.as_slice-4.result.now written after (o.next + 1) next c.as_slice-3.ensures c.as_slice-4.ensures.value c.settle-self-inside.ensures.settled) in (
      subst (λ flags. IsKept record { cases = o.cases; decisions = c.push_reserved.new.self.items } o.links.items flags next)
          (sym (written_back o.gone.len after (set o.gone.items o.next cancelled) (sym long) (sym (ap length c.as_mut_slice.ensures.value) ∙ sym c.settle-self-inside.auto.gone)))
          (subst (λ decisions. IsKept record { cases = o.cases; decisions = decisions } o.links.items after next) (sym c.push_reserved.ensures.items) kept),
      omega (arith, c.self.invariant.1, c.push_reserved.ensures.capacity),
      c.self.invariant.2,
    )

pub returns-clause-ok : goal.returns-clause-ok
returns-clause-ok c =
    accepted_front _ _ c.args.self.now
    (front_at _ _ _ _ c.self.invariant.0 _ _ c.as_slice-2.ensures (omega (arith, c.if-next-as_slice.false, ap length c.as_slice.ensures, ap length c.as_slice-2.ensures)) ∙ ap front_visit c.self.view_is) c.if-front-visit.false
