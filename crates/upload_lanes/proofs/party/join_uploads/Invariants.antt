use Rattle.std.proofs.Common.{◌≡◌, length, map}
use Rattle.crossbeam_queue.specs.Passes.{view}
use Rattle.lane_queue.specs.Queue.{IsPassOf}
use Rattle.upload_lanes.proofs.JoinLaws.{IsJoining}
use Rattle.upload_lanes.proofs.party.join_uploads.Given as goal

abbrev pub invariant-loop-handle : goal.invariant-loop-handle
invariant-loop-handle g l =
    IsPassOf l.queue l.taker
    × ((view l.taker).got ≡ (view l.fn.taker).got)
    × IsJoining l.queue.room (map (λ handle. handle.promise) l.fn.handles.items) (map (λ handle. handle.promise) l.handles.items) (view l.fn.taker).got l.fn.lanes l.lanes

abbrev pub decreases-loop-handle : goal.decreases-loop-handle
decreases-loop-handle g l = length l.handles.items
