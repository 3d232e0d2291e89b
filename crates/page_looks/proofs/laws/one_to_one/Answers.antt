use Rattle.page_looks.proofs.Anchors.{one_to_one, one_source, turned}
use Rattle.page_looks.proofs.laws.one_to_one.Goals as goal

pub returns-clause-one : goal.returns-clause-one
returns-clause-one c = one_to_one

pub returns-clause-source : goal.returns-clause-source
returns-clause-source c = one_source

pub returns-clause-turned : goal.returns-clause-turned
returns-clause-turned c = turned
