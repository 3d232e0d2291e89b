use Rattle.page_looks.proofs.Anchors.{itself, sends_itself, only_itself}
use Rattle.page_looks.proofs.laws.unchanged.Goals as goal

pub returns-clause-itself : goal.returns-clause-itself
returns-clause-itself c = itself

pub returns-clause-sending : goal.returns-clause-sending
returns-clause-sending c = sends_itself

pub returns-clause-only : goal.returns-clause-only
returns-clause-only c = only_itself
