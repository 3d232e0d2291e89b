use Rattle.site_line.proofs.TakenLaws.{given_taken}
use Rattle.site_line.proofs.refused.takes_decisions.Goals as goal

pub returns : goal.returns
returns c = given_taken (λ all. all.items) c.read_decisions.result _ c.is_taken.result c.read_decisions.ensures c.is_taken.ensures
