use Rattle.review_service.proofs.FirstShown.{first_shown}
use Rattle.review_service.proofs.review.Review.new.Goals as goal

pub returns-clause-shown : goal.returns-clause-shown
returns-clause-shown g c = λ is undecided decided. first_shown g.F.GrowingFile.seen g.F.GrowingFile.durable g.F.GrowingFile.lost c.args.opened c.new.result _ undecided is c.new.ensures.kept decided
