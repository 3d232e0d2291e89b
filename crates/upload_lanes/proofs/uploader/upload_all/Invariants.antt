use Rattle.std.proofs.Common.{◌≡◌, []}
use Rattle.crossbeam_queue.specs.Passes.{view}
use Rattle.lane_queue.specs.Queue.{IsPassOf}
use Rattle.upload_lanes.specs.inside.Sent.{IsReadOn, IsPutting}
use Rattle.upload_lanes.proofs.uploader.upload_all.Given as goal

abbrev pub invariant-loop : goal.invariant-loop
invariant-loop g l =
    (goal.iterator-loop g).can_next l.iterator'
    × (goal.iterator-loop g).is_finite l.iterator'
    × IsPassOf l.queue l.putter
    × ((view l.putter).lane ≡ (view l.fn.putter).lane)
    × IsReadOn l.fn.upload l.upload
    × IsPutting l.fn.size (view l.putter).put [] l.upload
