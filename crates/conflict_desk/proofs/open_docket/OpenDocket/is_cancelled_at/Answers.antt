use Rattle.std.proofs.Common.{◌∙◌, ap, sym, subst, slice_get}
use Rattle.conflict_desk.specs.Book.{is_cancelled}
use Rattle.conflict_desk.specs.inside.Links.{Follows, AllLeadBack}
use Rattle.conflict_desk.specs.inside.Settling.{Tell}
use Rattle.conflict_desk.proofs.Keeping.{cancelled_is_said}
use Rattle.conflict_desk.proofs.open_docket.OpenDocket.is_cancelled_at.Goals as goal

pub is_gone-requires-clause-back : goal.is_gone-requires-clause-back
is_gone-requires-clause-back c = subst AllLeadBack (sym c.as_slice.ensures.value) (λ k link at. (c.self.invariant.0.links_are k link at).back)

pub returns : goal.returns
returns c = λ case at.
    let o = c.self.inside in
    cancelled_is_said _ o.links.items o.gone.items o.next c.self.invariant.0 c.args.place case (ap (λ b. slice_get b.cases c.args.place) c.self.view_is ∙ at) _
    (λ said follows tell. c.is_gone.ensures said (subst (λ ls. Follows o.next ls said) (sym c.as_slice.ensures.value) follows) (subst (λ gs. Tell said o.next gs) (sym c.as_slice-2.ensures.value) tell))
    ∙ ap (λ b. is_cancelled b case) c.self.view_is
