use Rattle.http_rounds.specs.Rounds.{AreAnswered}
use Rattle.http_rounds.proofs.Places.{Over}
use Rattle.http_rounds.proofs.peers.read_all.Given as goal

abbrev pub invariant-loop-peer : goal.invariant-loop-peer
invariant-loop-peer g l =
    Over (λ olds news. AreAnswered g.S.Service.answers l.fn.service olds news l.service)
    l.peer-index l.fn.places l.places
