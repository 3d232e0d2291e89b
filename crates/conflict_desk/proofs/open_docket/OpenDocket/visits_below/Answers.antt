use Rattle.conflict_desk.proofs.Along.{takes_along}
use Rattle.conflict_desk.proofs.open_docket.OpenDocket.visits_below.Goals as goal

pub returns-clause-law : goal.returns-clause-law
returns-clause-law c = takes_along c.args.self.now c.args.visit
