use Rattle.std.proofs.Common.{◌≡◌}
use Rattle.std.specs.Arc.{arc_value}
use Rattle.std.specs.List.{AllByRecursion}
use Rattle.upload_lanes.proofs.party.end_party.Given as goal

abbrev pub invariant-loop-handle : goal.invariant-loop-handle
invariant-loop-handle g l = AllByRecursion (λ handle. handle.promise.queue.value ≡ arc_value l.queue) l.handle-iterator.rest.items
