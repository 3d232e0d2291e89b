use Rattle.std.proofs.Common.{arith}
use Rattle.upload_lanes.proofs.Zips.{zip_length}
use Rattle.replay_folder.proofs.HandLaws.{IsTakenHand, hands_taken}
use Rattle.replay_folder.proofs.hands.take_hands.Goals as goal

pub all_taken-requires-clause-room : goal.all_taken-requires-clause-room
all_taken-requires-clause-room g c κs within =
    let count = zip_length IsTakenHand c.args.hands.items c.in_ok-taken.taken.items c.in_ok-taken.ensures in
    omega (arith, count, c.len.ensures, c.in_ok-back.ensures.capacity)

pub returns : goal.returns
returns g c =
    hands_taken c.args.hands.items c.in_ok-taken.taken.items c.in_ok-taken.ensures c.all_taken.result.0.items c.all_taken.result.1 c.all_taken.ensures.hands c.all_taken.ensures.stop
