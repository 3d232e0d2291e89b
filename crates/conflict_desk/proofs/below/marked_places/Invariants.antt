use Rattle.std.proofs.Common.{◌≡◌, map, filter, take, slice_get, Some}
use Rattle.conflict_desk.specs.Below.{is_below_visit}
use Rattle.conflict_desk.proofs.below.marked_places.Given as goal

abbrev pub invariant-loop-place : goal.invariant-loop-place
invariant-loop-place l =
    map (slice_get l.cases) l.places.items ≡ map Some (filter (is_below_visit l.cases l.visit) (take l.place l.cases))
