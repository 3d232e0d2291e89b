use Rattle.std.proofs.Common.{map}
use Rattle.std.specs.Arc.{arc_value}
use Rattle.std.specs.Vec.{vec_capacity}
use Rattle.std.specs.Vec.Iter.{into_iter_items}
use Rattle.upload_lanes.proofs.SendingLaws.{IsSending}
use Rattle.upload_lanes.proofs.party.start_uploads.Given as goal

abbrev pub invariant-loop-client : goal.invariant-loop-client
invariant-loop-client g l =
    IsSending (arc_value l.queue) l.fn.size l.fn.lanes.items l.client-iterator.rest.items l.rest.items (map (λ handle. handle.promise) l.uploads.items) (into_iter_items l.putters)
    (vec_capacity l.uploads) (vec_capacity l.rest)
