use Rattle.std.specs.List.{AllByRecursion}
use Rattle.std.specs.Vec.{vec_capacity}
use Rattle.upload_lanes.proofs.CollectedLaws.{IsJoiningAll}
use Rattle.upload_lanes.specs.inside.Party.{TakesParty}
use Rattle.upload_lanes.specs.inside.Party.{IsRunning}
use Rattle.upload_lanes.proofs.parties.join_parties.Given as goal

abbrev pub invariant-loop-party : goal.invariant-loop-party
invariant-loop-party g l =
    AllByRecursion IsRunning l.party-iterator.rest.items
    × IsJoiningAll (TakesParty g.H.Halt.allows) l.fn.parties.items l.party-iterator.rest.items l.taken.items l.all (vec_capacity l.taken)
