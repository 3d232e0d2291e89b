use Rattle.std.proofs.Common.{◌≡◌, ◌≤◌, ◌++◌, ◌∷◌, [], arith, length, subst, sym}
use Rattle.std.specs.Vec.{vec_capacity}
use Rattle.upload_lanes.proofs.CollectedLaws.{IsStartingAll, hands_taken, running_all, started_none, started_one}
use Rattle.upload_lanes.proofs.parties.run_parties.Goals as goal

pub loop-hand-init : goal.loop-hand-init
loop-hand-init g c =
    let all = c.args.hands.items in
    let room : length all ≤ vec_capacity c.in_ok-parties.parties = omega (arith, c.len-2.ensures, c.args.hands.len, c.in_ok-parties.ensures.capacity) in
    subst (λ rest. IsStartingAll c.args.halt.now c.args.room all rest c.in_ok-parties.parties.items (vec_capacity c.in_ok-parties.parties)) (sym c.into_iter-hand-iterator.ensures.into_iter_gives.0)
    (subst (λ parties. IsStartingAll c.args.halt.now c.args.room all all parties (vec_capacity c.in_ok-parties.parties)) (sym c.in_ok-parties.ensures.items)
    (started_none c.args.halt.now c.args.room all (vec_capacity c.in_ok-parties.parties) c.requires.fresh room))

pub end_parties-requires-after_bounds : goal.end_parties-requires-after_bounds
end_parties-requires-after_bounds g c κs within = running_all c.args.halt.now c.args.room c.loop-hand.parties.items c.loop-hand.invariant.runs

pub join_parties-requires-clause-running : goal.join_parties-requires-clause-running
join_parties-requires-clause-running g c κs within = running_all c.args.halt.now c.args.room c.loop-hand.parties.items c.loop-hand.invariant.runs

pub loop-hand-preserved : goal.loop-hand-preserved
loop-hand-preserved g c =
    let all = c.args.hands.items in
    let rest = c.next.new.self.rest.items in
    let party = c.in-Ok.party in
    let one = started_one c.args.halt.now c.args.room all c.loop-hand.hand-iterator.rest.items rest c.loop-hand.parties.items (vec_capacity c.loop-hand.parties) c.in-Some.hand c.in-Some.ensures.steps.0 c.loop-hand.invariant
    party c.in-Ok.ensures.fresh c.in-Ok.ensures.runs in
    subst (λ parties. IsStartingAll c.args.halt.now c.args.room all rest parties (vec_capacity c.push_reserved.new.self)) (sym c.push_reserved.ensures.items)
    (subst (IsStartingAll c.args.halt.now c.args.room all rest (c.loop-hand.parties.items ++ party ∷ [])) (sym c.push_reserved.ensures.capacity) one)

pub returns : goal.returns
returns g c =
    let none : length c.loop-hand.hand-iterator.rest.items ≡ 0 = omega (arith, c.in-None.ensures.steps) in
    hands_taken c.args.halt.now c.args.room g.H.Halt.allows c.args.hands.items c.loop-hand.hand-iterator.rest.items c.loop-hand.parties.items (vec_capacity c.loop-hand.parties) c.join_parties.result.0.items
    c.join_parties.result.1 none c.loop-hand.invariant c.join_parties.ensures
