use Rattle.http_rounds.specs.Rounds.{PlaceKeeps}
use Rattle.http_rounds.proofs.Places.{at_same, keeps_same}
use Rattle.http_rounds.proofs.round_server.RoundServer.wait.Goals as goal

pub returns-in_err-poll-clause-places : goal.returns-in_err-poll-clause-places
returns-in_err-poll-clause-places g c = at_same PlaceKeeps keeps_same _
