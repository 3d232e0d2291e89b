use Rattle.http_rounds.specs.Rounds.{AreAt, PlaceKeeps}
use Rattle.http_rounds.proofs.round_server.wake_all.Given as goal

abbrev pub invariant-loop-event : goal.invariant-loop-event
invariant-loop-event l = AreAt PlaceKeeps l.fn.peers.places.items l.peers.places.items
