use Rattle.std.proofs.Common.{◌≡◌, ◌++◌, take, flat_map}
use Rattle.visit_view.specs.Deciding.{one_at}
use Rattle.visit_view.proofs.along.add_named.Given as goal

abbrev pub invariant-loop-place : goal.invariant-loop-place
invariant-loop-place l =
    l.out.items ≡ l.initial.out.items ++ flat_map (one_at l.found.client.now l.found.visits.now l.found.docket.now) (take l.place-index l.places)
