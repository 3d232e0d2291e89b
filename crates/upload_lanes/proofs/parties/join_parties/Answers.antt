use Rattle.std.proofs.Common.{◌≡◌, ◌++◌, ◌∷◌, [], arith, length, subst, sym}
use Rattle.std.specs.List.{AllByRecursion}
use Rattle.std.specs.Vec.{vec_capacity}
use Rattle.upload_lanes.proofs.CollectedLaws.{IsJoiningAll, joined_all, joined_none, joined_one, room_for_one}
use Rattle.upload_lanes.specs.Threads.{both_stops}
use Rattle.upload_lanes.specs.inside.Party.{TakesParty}
use Rattle.upload_lanes.specs.inside.Party.{IsRunning}
use Rattle.lanes_in_turn.specs.declared.gathered.Stop.TheVariants as stops
use Rattle.upload_lanes.proofs.parties.join_parties.Goals as goal

pub loop-party-init : goal.loop-party-init
loop-party-init g c =
    let all = c.args.parties.items in
    let begun = joined_none (TakesParty g.H.Halt.allows) all (vec_capacity c.args.taken) c.requires.room in
    subst (λ rest. AllByRecursion IsRunning rest × IsJoiningAll (TakesParty g.H.Halt.allows) all rest c.args.taken.items stops.None (vec_capacity c.args.taken)) (sym c.into_iter-party-iterator.ensures.into_iter_gives.0)
    (c.requires.running, subst (λ made. IsJoiningAll (TakesParty g.H.Halt.allows) all all made stops.None (vec_capacity c.args.taken)) (sym c.requires.none) begun)

pub push_reserved-requires : goal.push_reserved-requires
push_reserved-requires g c =
    let room = room_for_one (TakesParty g.H.Halt.allows) c.args.parties.items c.loop-party.party-iterator.rest.items c.next.new.self.rest.items c.loop-party.taken.items c.loop-party.all (vec_capacity c.loop-party.taken)
    c.in-Some.party c.in-Some.ensures.steps.0 c.loop-party.invariant.1 in
    omega (arith, room, c.loop-party.taken.len)

pub loop-party-preserved : goal.loop-party-preserved
loop-party-preserved g c =
    let all = c.args.parties.items in
    let rest = c.next.new.self.rest.items in
    let one = joined_one (TakesParty g.H.Halt.allows) all c.loop-party.party-iterator.rest.items rest c.loop-party.taken.items c.loop-party.all (vec_capacity c.loop-party.taken) c.in-Some.party c.in-Some.ensures.steps.0
    c.loop-party.invariant.1 c.join_party-lanes.result.0 c.join_party-lanes.result.1 c.join_party-lanes.ensures in (
      (subst (AllByRecursion IsRunning) c.in-Some.ensures.steps.0 c.loop-party.invariant.0).1,
      subst (λ made. IsJoiningAll (TakesParty g.H.Halt.allows) all rest made c.both_stops-all.result (vec_capacity c.push_reserved.new.self)) (sym c.push_reserved.ensures.items)
          (subst (λ stop. IsJoiningAll (TakesParty g.H.Halt.allows) all rest (c.loop-party.taken.items ++ c.join_party-lanes.result.0 ∷ []) stop (vec_capacity c.push_reserved.new.self)) (sym c.both_stops-all.ensures)
          (subst (IsJoiningAll (TakesParty g.H.Halt.allows) all rest (c.loop-party.taken.items ++ c.join_party-lanes.result.0 ∷ []) (both_stops c.loop-party.all c.join_party-lanes.result.1)) (sym c.push_reserved.ensures.capacity) one)),
    )

pub returns : goal.returns
returns g c =
    let none : length c.loop-party.party-iterator.rest.items ≡ 0 = omega (arith, c.in-None.ensures.steps) in
    joined_all (TakesParty g.H.Halt.allows) c.args.parties.items c.loop-party.party-iterator.rest.items c.loop-party.taken.items c.loop-party.all (vec_capacity c.loop-party.taken) none c.loop-party.invariant.1
