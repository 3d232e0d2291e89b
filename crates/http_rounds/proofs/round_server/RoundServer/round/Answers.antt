use Rattle.std.proofs.Common.{◌∙◌, subst}
use Rattle.http_rounds.specs.Rounds.{AreAnsweredFrom, PlaceBegins, PlaceKeeps}
use Rattle.http_rounds.proofs.Places.{at_then, begins_then}
use Rattle.http_rounds.proofs.round_server.RoundServer.round.Goals as goal

pub returns-clause-round : goal.returns-clause-round
returns-clause-round g c =
    let then = at_then PlaceBegins PlaceKeeps PlaceBegins begins_then in record {
      begun = c.give_turn.new.self.places.items;
      begin = then _ _ _ (then _ _ _ (then _ _ _ c.sweep.ensures c.wait.ensures.places) c.accept.ensures.places) c.give_turn.ensures.keeps;
      read = c.read.new.self.places.items;
      called = c.read.new.service;
      first = c.read.ensures.0;
      answered = subst (λ s. AreAnsweredFrom g.S.Service.answers c.read.ensures.0 s c.give_turn.new.self.places.items c.read.new.self.places.items c.read.new.service)
          (c.accept.ensures.service ∙ c.wait.ensures.service) c.read.ensures.1;
      stands = c.settle-stands.result;
      settled = c.settle-stands.ensures;
      sent = c.write.ensures;
    }
