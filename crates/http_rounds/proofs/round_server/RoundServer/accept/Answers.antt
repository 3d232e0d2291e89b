use Rattle.std.proofs.Common.{refl, ◌∙◌}
use Rattle.http_rounds.specs.Rounds.{PlaceKeeps}
use Rattle.http_rounds.proofs.Places.{at_same, at_then, keeps_same, keeps_then}
use Rattle.http_rounds.proofs.round_server.RoundServer.accept.Goals as goal

pub loop-init : goal.loop-init
loop-init g c = record { places = at_same PlaceKeeps keeps_same _; service = refl }

pub loop-preserved : goal.loop-preserved
loop-preserved g c = record {
  places = at_then PlaceKeeps PlaceKeeps PlaceKeeps keeps_then _ _ _ c.loop.invariant.places c.take_in.ensures.places;
  service = c.take_in.ensures.service ∙ c.loop.invariant.service;
}
