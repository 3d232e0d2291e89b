use Rattle.page_looks.proofs.CounterpartLaws.{same_place_is}
use Rattle.page_looks.proofs.SameLaws.{sends_still, still_sent}
use Rattle.page_looks.proofs.laws.same_place_is_the_same.Goals as goal

pub returns-clause-place : goal.returns-clause-place
returns-clause-place c = same_place_is

pub returns-clause-sending : goal.returns-clause-sending
returns-clause-sending c = sends_still

pub returns-clause-sent : goal.returns-clause-sent
returns-clause-sent c = still_sent
