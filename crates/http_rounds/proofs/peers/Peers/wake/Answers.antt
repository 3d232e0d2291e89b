use Rattle.std.proofs.Common.{subst}
use Rattle.http_rounds.specs.Rounds.{PlaceKeeps}
use Rattle.http_rounds.proofs.Places.{at_same, at_set, keeps_same}
use Rattle.http_rounds.proofs.peers.Peers.wake.Goals as goal

pub returns-then-place-len : goal.returns-then-place-len
returns-then-place-len c = at_set PlaceKeeps keeps_same c.args.self.now.places.items c.args.place c.wake.new.peer c.index_mut.result.now (subst (λ x. PlaceKeeps x c.wake.new.peer) c.index_mut.ensures.value c.wake.ensures)

pub returns-else-place-len : goal.returns-else-place-len
returns-else-place-len c = at_same PlaceKeeps keeps_same c.args.self.now.places.items
