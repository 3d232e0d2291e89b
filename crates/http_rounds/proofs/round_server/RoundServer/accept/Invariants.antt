use Rattle.std.proofs.Common.{◌≡◌}
use Rattle.http_rounds.specs.Rounds.{AreAt, PlaceKeeps}
use Rattle.http_rounds.proofs.round_server.RoundServer.accept.Given as goal

abbrev pub invariant-loop : goal.invariant-loop
invariant-loop g l = record {
  places : AreAt PlaceKeeps l.fn.self.peers.places.items l.self.peers.places.items;
  service : l.self.service ≡ l.fn.self.service;
}
