use Rattle.visit_replay.specs.Limits.{AreWorkers, max_workers}
use Rattle.site_line.proofs.TakenLaws.{number_taken}
use Rattle.site_line.proofs.refused.takes_workers.Goals as goal

pub returns : goal.returns
returns c =
    number_taken max_workers AreWorkers (λ n within. (within.some, within.few)) (λ n some few. record { some = some; few = few }) c.read_workers.result _ c.is_taken.result c.read_workers.ensures.ok c.read_workers.ensures.fails
    c.is_taken.ensures
