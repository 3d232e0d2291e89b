use Rattle.std.proofs.Common.{◌≡◌, map}
use Rattle.std.specs.List.{filter_map, range_with_len}
use Rattle.review_state.specs.Fronts.{front_at}
use Rattle.review_state.proofs.fronts.fronts_of.Given as goal

abbrev pub invariant-loop-place : goal.invariant-loop-place
invariant-loop-place l =
    l.fronts.items ≡ filter_map (front_at l.desk (map (λ client. client.now) l.clients)) (range_with_len 0 l.place)
