use Rattle.std.specs.Vec.{vec_capacity}
use Rattle.upload_lanes.proofs.CollectedLaws.{IsStartingAll}
use Rattle.upload_lanes.proofs.parties.run_parties.Given as goal

abbrev pub invariant-loop-hand : goal.invariant-loop-hand
invariant-loop-hand g l = IsStartingAll l.halt l.room l.fn.hands.items l.hand-iterator.rest.items l.parties.items (vec_capacity l.parties)
