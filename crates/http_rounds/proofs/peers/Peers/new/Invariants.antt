use Rattle.std.proofs.Common.{◌≡◌, None, replicate}
use Rattle.http_rounds.proofs.peers.Peers.new.Given as goal

abbrev pub invariant-loop : goal.invariant-loop
invariant-loop l = l.places.items ≡ replicate l.counter None
