use Rattle.http_rounds.specs.Rounds.{AreAt, PlaceSends}
use Rattle.http_rounds.proofs.Places.{Over}
use Rattle.http_rounds.proofs.peers.Peers.write.Given as goal

abbrev pub invariant-loop-peer : goal.invariant-loop-peer
invariant-loop-peer l = Over (AreAt (PlaceSends l.stands)) l.peer-index l.fn.self.places.items l.peer-items
