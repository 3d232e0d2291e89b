use Rattle.page_looks.proofs.Anchors.{alike, sends_alike, below}
use Rattle.page_looks.proofs.laws.what_is_the_same_is_alike.Goals as goal

pub returns-clause-looks : goal.returns-clause-looks
returns-clause-looks c = alike

pub returns-clause-below : goal.returns-clause-below
returns-clause-below c = below

pub returns-clause-sends : goal.returns-clause-sends
returns-clause-sends c = sends_alike
