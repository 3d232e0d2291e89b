use Rattle.std.proofs.lemmas.Result.{IfOk-weaker}
use Rattle.visit_replay.specs.inside.Differing.{AreLookedUp}
use Rattle.visit_replay.proofs.Stepping.{found_by}
use Rattle.visit_replay.proofs.replaying.find_on.Goals as goal

pub replay_on-requires-clause-known : goal.replay_on-requires-clause-known
replay_on-requires-clause-known g c =
    let all : AreLookedUp c.args.visit.now.page c.args.new.now c.new-lookups.result = c.new-lookups.ensures c.new.ensures in
    λ _ _. all

pub returns-in-None : goal.returns-in-None
returns-in-None g c = rw (← c.in-None.ensures) c.replay_on.ensures.answer

pub returns-in_ok-page-in-Some : goal.returns-in_ok-page-in-Some
returns-in_ok-page-in-Some g c =
    let visit = c.args.visit.now in
    IfOk-weaker c.by_looks.result _ _ (λ answer is. found_by c.in_ok-page-in-Some.page visit c.args.new.now c.in-Some.fresh.now c.args.finding.now
    (g.H.SiteLaw.signals c.args.hooks.now visit.address visit.page) answer c.in_ok-page-in-Some.ensures c.in-Some.ensures is) c.by_looks.ensures.answer
