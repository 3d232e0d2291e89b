use Rattle.std.proofs.Common.{◌≡◌, ◌≤◌, length, ap, ◌∙◌, sym, subst, arith}
use Rattle.conflict_desk.specs.inside.Links.{AreLinks}
use Rattle.conflict_desk.specs.inside.Kept.{IsKept}
use Rattle.conflict_desk.proofs.Fronts.{written_back}
use Rattle.conflict_desk.proofs.Keeping.{opened_kept, settled_as}
use Rattle.conflict_desk.proofs.open_docket.OpenDocket.open.Goals as goal

pub invariant_of-result : goal.invariant_of-result
invariant_of-result c =
    let links = c.in_ok-links.links.items in
    let after = c.settle-next.new.gone in
    let next = c.settle-next.result in
    let long : length after ≡ c.in_ok-gone.gone.len = c.settle-next.auto.gone ∙ c.as_mut_slice.ensures.len in
    let kept = opened_kept c.args.cases links c.as_mut_slice.result.now after next c.requires
    (subst (λ cs. AreLinks cs links) c.as_slice.ensures c.in_ok-links.ensures.links)
    (c.in_ok-links.ensures.count ∙ ap length c.as_slice.ensures)
    (long ∙ c.in_ok-gone.ensures.len ∙ ap length c.as_slice-count.ensures)
    (subst (λ cs. next ≤ length cs) c.as_slice-2.ensures c.settle-next.ensures.within)
    (settled_as c.args.cases c.as_slice-2.result.now links c.as_slice-3.result.now c.as_mut_slice.result.now after 0 next c.as_slice-2.ensures c.as_slice-3.ensures.value c.settle-next.ensures.settled) in (
      subst (λ flags. IsKept record { cases = c.args.cases; decisions = c.in_ok-decisions.decisions.items } links flags next)
          (sym (written_back c.in_ok-gone.gone.len after c.in_ok-gone.gone.items (sym long) (sym c.in_ok-gone.gone.ok.0 ∙ sym long)))
          (subst (λ decisions. IsKept record { cases = c.args.cases; decisions = decisions } links after next) (sym c.in_ok-decisions.ensures.items) kept),
      omega (arith, ap length c.as_slice-count.ensures, c.in_ok-decisions.ensures.exact),
      c.none.ensures,
    )
