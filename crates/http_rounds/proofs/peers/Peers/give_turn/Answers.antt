use Rattle.std.proofs.Common.{subst}
use Rattle.http_rounds.specs.Rounds.{PlaceKeeps}
use Rattle.http_rounds.proofs.Places.{at_same, at_set, keeps_same, keeps_turn}
use Rattle.http_rounds.proofs.peers.Peers.give_turn.Goals as goal

pub returns-in-Some-clause-keeps : goal.returns-in-Some-clause-keeps
returns-in-Some-clause-keeps c = at_set PlaceKeeps keeps_same c.args.self.now.places.items c.in-Some.place c.give_turn.new.peer c.index_mut.result.now
    (subst (λ x. PlaceKeeps x c.give_turn.new.peer) c.index_mut.ensures.value (keeps_turn _ _ c.give_turn.ensures))

pub returns-in_default-clause-keeps : goal.returns-in_default-clause-keeps
returns-in_default-clause-keeps c = at_same PlaceKeeps keeps_same c.args.self.now.places.items

pub returns-then-self-clause-keeps : goal.returns-then-self-clause-keeps
returns-then-self-clause-keeps c = at_same PlaceKeeps keeps_same c.args.self.now.places.items
