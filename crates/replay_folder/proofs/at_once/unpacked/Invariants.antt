use Rattle.std.proofs.Common.{◌≡◌, ◌+◌, ◌≤◌, ◌++◌, length, map}
use Rattle.std.specs.Prelude.{fold}
use Rattle.std.specs.Vec.{vec_capacity}
use Rattle.upload_lanes.specs.Threads.{both_stops, stop_of}
use Rattle.replay_folder.proofs.at_once.unpacked.Given as goal

abbrev pub invariant-loop-one : goal.invariant-loop-one
invariant-loop-one g l = record {
  lanes : l.lanes.items ++ map (λ one. one.lane) l.one-iterator.rest.items ≡ map (λ one. one.lane) l.fn.taken.items;
  stop : fold both_stops l.all (map (λ one. one.stop) l.one-iterator.rest.items) ≡ stop_of (map (λ one. one.stop) l.fn.taken.items);
  room : length l.lanes.items + length l.one-iterator.rest.items ≤ vec_capacity l.lanes;
}
