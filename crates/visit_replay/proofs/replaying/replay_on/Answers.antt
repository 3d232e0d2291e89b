use Rattle.std.proofs.Common.{◌≡◌, ◌+◌, length, Some, ap, sym, ◌∙◌, subst, arith}
use Rattle.std.proofs.lemmas.Result.{IfOk-weaker}
use Rattle.visit_replay.specs.Outcome.{conflict_of}
use Rattle.visit_replay.specs.inside.OneEvent.{aimed, names_aimed}
use Rattle.visit_replay.specs.inside.Trails.{IsTrailOf}
use Rattle.visit_replay.specs.declared.outcome.Outcome.TheVariants.{Conflict}
use Rattle.visit_replay.proofs.Stepping.{at_last, on_any, stopped}
use Rattle.visit_replay.proofs.replaying.replay_on.Goals as goal

pub returns-in-Some-clause-answer : goal.returns-in-Some-clause-answer
returns-in-Some-clause-answer g c =
    let visit = c.args.visit.now in
    let new = c.args.new.now in
    let same_names = names_aimed c.args.aiming.now in
    let aim = aimed c.args.aiming.now visit.page new in
    let bad : Some c.in-Some.kind ≡ conflict_of same_names visit.page new visit.events c.loop-i.i = sym c.in-Some.is ∙ c.in_ok-kind.ensures.conflict in
    let same : c.step.new.trail ≡ c.loop-i.trail = rw c.in-Some.is at c.in_ok-kind.ensures.stays in
    rw (stopped same_names visit.page new visit.events c.loop-i.i c.in-Some.kind c.loop-i.invariant.good (omega (arith, c.loop-i-test.true, ap length c.as_slice-i-end.ensures)) bad)
    (ap (λ requests. Conflict requests (c.loop-i.i + 1) c.in-Some.kind) (c.in_ok-requests.ensures.made aim visit new c.loop-i.i (subst (IsTrailOf aim visit new c.loop-i.i) (sym same) c.loop-i.invariant.walked)))

pub returns-clause-answer : goal.returns-clause-answer
returns-clause-answer g c =
    let visit = c.args.visit.now in
    let new = c.args.new.now in
    let aim = aimed c.args.aiming.now visit.page new in
    let over : c.loop-i.i ≡ length visit.events = omega (arith, c.loop-i-test.false, c.loop-i.auto.i-end, ap length c.as_slice-i-end.ensures) in
    let made = c.in_ok-of.ensures.made aim visit new (length visit.events) (subst (λ n. IsTrailOf aim visit new n c.loop-i.trail) over c.loop-i.invariant.walked) in
    let told = g.H.SiteLaw.signals c.args.hooks.now visit.address visit.page in
    IfOk-weaker c.finish.result _ _ (λ answer is. at_last (names_aimed c.args.aiming.now) visit new told answer (λ k below. c.loop-i.invariant.good k (omega (arith, over, below))) (is aim made)) c.finish.ensures

pub returns-clause-known : goal.returns-clause-known
returns-clause-known g c = on_any c.finish.result c.loop-i.invariant.known
