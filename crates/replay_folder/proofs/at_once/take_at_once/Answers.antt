use denote.Param.Send.{sendable}
use Rattle.std.proofs.Common.{arith}
use Rattle.std.proofs.Crossing.{crosses}
use Rattle.lanes_in_turn.specs.Taking.{IsFreshLane}
use Rattle.upload_reader.proofs.client.Client.TheSendSync as clients
use Rattle.upload_lanes.proofs.Crossing.{lane_send}
use Rattle.upload_lanes.proofs.Zips.{zip_length}
use Rattle.replay_folder.specs.inside.AtOnce.{IsTakenOf}
use Rattle.replay_folder.proofs.AtOnceCross.{taken_send}
use Rattle.replay_folder.proofs.AtOnceLaws.{all_weaker, each_taken}
use Rattle.replay_folder.proofs.at_once.take_at_once.Goals as goal

pub map_drawn-requires-send-T : goal.map_drawn-requires-send-T
map_drawn-requires-send-T g c κs within = search (sendable, crosses, clients.the_send, lane_send) depth 40

pub map_drawn-requires-send-X : goal.map_drawn-requires-send-X
map_drawn-requires-send-X g c κs within = search (sendable, crosses, taken_send) depth 40

pub map_drawn-requires-after_bounds : goal.map_drawn-requires-after_bounds
map_drawn-requires-after_bounds g c κs within =
    all_weaker IsFreshLane _ (λ lane fresh. (fresh, (search (sendable, crosses) depth 40, search (sendable, crosses) depth 40))) c.args.lanes.items c.requires.fresh

pub unpacked-requires-clause-room : goal.unpacked-requires-clause-room
unpacked-requires-clause-room g c κs within =
    let count = zip_length IsTakenOf c.args.lanes.items c.in_ok-taken.taken.items c.in_ok-taken.ensures in
    omega (arith, count, c.len.ensures, c.in_ok-back.ensures.capacity)

pub returns : goal.returns
returns g c =
    each_taken c.args.lanes.items c.unpacked.result.0.items c.unpacked.result.1 c.in_ok-taken.taken.items c.requires.lanes.some c.in_ok-taken.ensures c.unpacked.ensures.lanes
    c.unpacked.ensures.stop
