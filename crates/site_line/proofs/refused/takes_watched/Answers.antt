use Rattle.site_hooks.specs.Table.{watched_in}
use Rattle.site_line.proofs.TakenLaws.{given_taken}
use Rattle.site_line.proofs.refused.takes_watched.Goals as goal

pub returns : goal.returns
returns c = given_taken watched_in c.read_watched.result _ c.is_taken.result c.read_watched.ensures.watched c.is_taken.ensures
