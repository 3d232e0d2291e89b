use Rattle.std.proofs.Common.{None}
use Rattle.http_rounds.specs.Rounds.{PlaceKeeps}
use Rattle.http_rounds.proofs.Places.{at_same, at_set, keeps_new, keeps_same}
use Rattle.http_rounds.proofs.peers.Peers.put.Goals as goal

pub returns-then-place-len : goal.returns-then-place-len
returns-then-place-len c = at_set PlaceKeeps keeps_same c.args.self.now.places.items c.args.place _ None (keeps_new _ c.args.peer c.requires)

pub returns-else-place-len : goal.returns-else-place-len
returns-else-place-len c = at_same PlaceKeeps keeps_same c.args.self.now.places.items
