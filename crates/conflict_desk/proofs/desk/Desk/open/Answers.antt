use Rattle.std.proofs.Common.{sym, subst, ◌∙◌}
use Rattle.conflict_desk.specs.Laws.{IsInOrder, IsSteady}
use Rattle.conflict_desk.proofs.Books.{all_opened}
use Rattle.conflict_desk.proofs.Leaving.{all_leave}
use Rattle.conflict_desk.proofs.Staying.{all_stay}
use Rattle.conflict_desk.proofs.Isolation.{isolated}
use Rattle.conflict_desk.proofs.desk.Desk.open.Goals as goal

pub returns-clause-opened : goal.returns-clause-opened
returns-clause-opened c =
    let rest = c.loop-docket.docket-iterator.rest in
    all_opened c.loop-docket.open.entries rest.items c.into_iter-docket-iterator.result.rest.items c.args.dockets.items c.loop-docket.invariant.entries (sym rest.ok.0 ∙ c.in-None.ensures.steps.0)
    c.into_iter-docket-iterator.ensures.into_iter_gives.0 c.requires.clients

pub returns-clause-leave : goal.returns-clause-leave
returns-clause-leave c =
    let rest = c.loop-docket.docket-iterator.rest in
    subst IsInOrder
    (sym (all_opened c.loop-docket.open.entries rest.items c.into_iter-docket-iterator.result.rest.items c.args.dockets.items c.loop-docket.invariant.entries (sym rest.ok.0 ∙ c.in-None.ensures.steps.0)
    c.into_iter-docket-iterator.ensures.into_iter_gives.0 c.requires.clients))
    (all_leave c.args.dockets.items c.requires.visits)

pub returns-clause-stay : goal.returns-clause-stay
returns-clause-stay c =
    let rest = c.loop-docket.docket-iterator.rest in
    subst IsSteady
    (sym (all_opened c.loop-docket.open.entries rest.items c.into_iter-docket-iterator.result.rest.items c.args.dockets.items c.loop-docket.invariant.entries (sym rest.ok.0 ∙ c.in-None.ensures.steps.0)
    c.into_iter-docket-iterator.ensures.into_iter_gives.0 c.requires.clients))
    (all_stay c.args.dockets.items c.requires.visits)

pub returns-clause-apart : goal.returns-clause-apart
returns-clause-apart c = isolated _
