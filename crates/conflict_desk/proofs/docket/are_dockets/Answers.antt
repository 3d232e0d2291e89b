use Rattle.std.proofs.Common.{refl, sym, subst, ◌∙◌}
use Rattle.std.proofs.lemmas.Bool.{true≢false, false≢true}
use Rattle.conflict_desk.specs.Docket.{AreAscending}
use Rattle.conflict_desk.proofs.Dockets.{to_the_end, one_on, not_twice}
use Rattle.conflict_desk.proofs.docket.are_dockets.Goals as goal

pub returns-then-has_client : goal.returns-then-has_client
returns-then-has_client c = (
  (λ is. absurd (false≢true is)),
  (λ are. absurd (true≢false
      (sym c.if-has_client.true ∙ c.has_client.ensures ∙ not_twice c.args.dockets.now c.loop-docket.rest.now c.loop-docket.invariant c.in-Some.docket.now c.in-Some.others.now c.in-Some.ensures.cases.0 are))),
)

pub loop-docket-preserved : goal.loop-docket-preserved
loop-docket-preserved c =
    one_on c.args.dockets.now c.loop-docket.rest.now c.loop-docket.invariant c.in-Some.docket.now c.in-Some.others.now c.in-Some.ensures.cases.0
    (subst AreAscending c.as_slice.ensures (c.are_ascending.ensures.0 c.if-not-are_ascending.false))
    (sym c.has_client.ensures ∙ c.if-has_client.false)

pub returns : goal.returns
returns c = ((λ is. to_the_end c.args.dockets.now c.loop-docket.rest.now c.loop-docket.invariant c.in_default.ensures.cases), (λ are. refl))
