use Rattle.std.proofs.Common.{map, sym, ap, subst, ◌∙◌}
use Rattle.std.proofs.lemmas.Result.{IfOk-weaker}
use Rattle.std.specs.List.{AllByRecursion}
use Rattle.conflict_desk.specs.Docket.{AreAscending}
use Rattle.own_pages.specs.OwnPages.{own_page_at}
use Rattle.warp_run.specs.inside.{client_visits}
use Rattle.warp_run.proofs.RepairLaws.{told_are, dockets_ascend}
use Rattle.warp_run.proofs.repairing.told_dockets.Goals as goal

pub returns-clause-dockets : goal.returns-clause-dockets
returns-clause-dockets g c =
    let page_of = g.H.SiteLaw.page_of c.args.hooks.now in
    let own = own_page_at c.args.own.now in
    IfOk-weaker c.dockets_of.result _ _
    (λ all is. is ∙ told_are page_of own c.args.finding.now c.args.clients.now.entries c.as_slice.result.now c.args.outcomes.items c.tell_changed.new.all.items
    (ap (map client_visits) c.as_slice.ensures.value ∙ c.in_ok-kept.ensures.visits) (c.in_ok-tell_changed.ensures.pairs ∙ c.in_ok-told.ensures.pairs)) c.dockets_of.ensures.dockets

pub returns-clause-ascend : goal.returns-clause-ascend
returns-clause-ascend g c =
    let page_of = g.H.SiteLaw.page_of c.args.hooks.now in
    let own = own_page_at c.args.own.now in
    let kept = ap (map client_visits) c.as_slice.ensures.value ∙ c.in_ok-kept.ensures.visits in
    IfOk-weaker c.dockets_of.result _ _
    (λ all is. subst (AllByRecursion (λ docket. AreAscending docket.cases)) (sym is)
    (dockets_ascend page_of own c.args.finding.now c.args.clients.now.entries c.as_slice.result.now c.args.outcomes.items kept
    (subst (AllByRecursion _) (sym c.as_slice.ensures.value) c.in_ok-kept.ensures.ascend))) (returns-clause-dockets g c)

pub returns-clause-distinct : goal.returns-clause-distinct
returns-clause-distinct g c = IfOk-weaker c.dockets_of.result _ _ (λ all is. c.dockets_of.ensures.distinct) c.dockets_of.ensures.dockets
