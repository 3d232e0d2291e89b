use Rattle.http_rounds.specs.Rounds.{PlaceKeeps}
use Rattle.http_rounds.proofs.Places.{at_same, at_then, keeps_same, keeps_then}
use Rattle.http_rounds.proofs.round_server.wake_all.Goals as goal

pub loop-event-init : goal.loop-event-init
loop-event-init c = at_same PlaceKeeps keeps_same _

pub loop-event-preserved : goal.loop-event-preserved
loop-event-preserved c = at_then PlaceKeeps PlaceKeeps PlaceKeeps keeps_then _ _ _ c.loop-event.invariant c.wake.ensures
