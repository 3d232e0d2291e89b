use Rattle.std.proofs.Common.{refl}
use Rattle.site_file.specs.Addition.{decide_line, decided}
use Rattle.site_file.proofs.adding.add_decide_line.Goals as goal

pub returns : goal.returns
unfolding decide_line
returns c = (decided c.in_ok-decision.decision, rw c.in_ok-decision.ensures refl, c.in_ok-add_decision.ensures)
