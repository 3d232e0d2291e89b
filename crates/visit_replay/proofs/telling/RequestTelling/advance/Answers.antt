use Rattle.visit_replay.proofs.TellLaws.{begun}
use Rattle.visit_replay.proofs.telling.RequestTelling.advance.Goals as goal

pub returns-in-Before-clause-next : goal.returns-in-Before-clause-next
returns-in-Before-clause-next c = λ _. begun c.self.inside.trail c.self.inside.stage c.in-Some.trail c.args.self.now c.in-Some.is c.in-Before.is c.self.view_is
