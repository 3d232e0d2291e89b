use Rattle.page_looks.proofs.Anchors.{agree, sends_below}
use Rattle.page_looks.proofs.laws.anchors_agree.Goals as goal

pub returns-clause-place : goal.returns-clause-place
returns-clause-place c = agree

pub returns-clause-sending : goal.returns-clause-sending
returns-clause-sending c = sends_below
