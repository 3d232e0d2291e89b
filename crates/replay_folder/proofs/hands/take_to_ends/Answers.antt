use Rattle.std.proofs.Common.{length}
use Rattle.std.proofs.lemmas.Result.{IfOk-weaker}
use Rattle.upload_lanes.specs.Threads.{read_ahead}
use Rattle.warp_server.specs.Rounds.{server_room}
use Rattle.replay_folder.proofs.HandLaws.{taken_ahead}
use Rattle.replay_folder.proofs.hands.take_to_ends.Goals as goal

pub returns-then-at_once : goal.returns-then-at_once
returns-then-at_once g c =
    let lanes = c.args.lanes.items in
    IfOk-weaker c.take_at_once.result _ _ (λ all are. taken_ahead (read_ahead server_room (length lanes)) lanes all.0.items all.1 are) c.take_at_once.ensures

pub returns-else-at_once : goal.returns-else-at_once
returns-else-at_once g c =
    let lanes = c.args.lanes.items in
    IfOk-weaker c.take_by_hands.result _ _ (λ all are. taken_ahead (read_ahead server_room (length lanes)) lanes all.0.items all.1 are) c.take_by_hands.ensures
