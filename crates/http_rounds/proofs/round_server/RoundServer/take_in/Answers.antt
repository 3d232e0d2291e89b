use Rattle.http_rounds.specs.Rounds.{PlaceKeeps}
use Rattle.http_rounds.proofs.Places.{at_same, keeps_same}
use Rattle.http_rounds.proofs.round_server.RoundServer.take_in.Goals as goal

pub returns-in-Err-clause-places : goal.returns-in-Err-clause-places
returns-in-Err-clause-places g c = at_same PlaceKeeps keeps_same _
