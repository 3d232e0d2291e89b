use Rattle.review_server.proofs.ShownRounds.{round_shown}
use Rattle.review_server.proofs.server.ReviewServer+Review+F+Fed+File.round.Goals as goal

pub returns-clause-shown : goal.returns-clause-shown
returns-clause-shown g c = λ first undecided.
    round_shown g.F.GrowingFile.seen g.F.GrowingFile.durable g.F.GrowingFile.lost first undecided _ _ _ _ c.in_ok-round.ensures.round
