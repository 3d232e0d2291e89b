use Rattle.std.proofs.Common.{◌≡◌, ap, arith, length, ◌∙◌}
use Rattle.std.proofs.lemmas.List.Elements.{All-from_recursion}
use Rattle.lanes_in_turn.specs.Taking.{never}
use Rattle.upload_lanes.proofs.CollectedLaws.{hands_fresh, recorders_range, shares, take_lanes, taken_count}
use Rattle.upload_lanes.specs.Threads.{recorders_of}
use Rattle.upload_lanes.specs.inside.Party.{IsFreshHand}
use Rattle.replay_folder.proofs.hands.take_by_hands.Goals as goal

pub take_hands-requires-clause-fresh : goal.take_hands-requires-clause-fresh
take_hands-requires-clause-fresh g c κs within =
    let lanes = c.args.lanes.items in
    let count : c.len-count.result ≡ length lanes = omega (arith, c.len-count.ensures) in
    let threads : c.hands_of.result ≡ recorders_of (length lanes) = c.hands_of.ensures ∙ ap recorders_of count in
    let range = recorders_range (length lanes) c.requires.lanes.some in
    All-from_recursion IsFreshHand c.in_ok-hands.hands.items
    (hands_fresh lanes c.in_ok-hands.hands.items c.hands_of.result c.in_ok-hands.ensures.count c.in_ok-hands.ensures.each c.requires.fresh (omega (arith, threads, range.1)) c.requires.lanes.few)

pub collect-requires-clause-some : goal.collect-requires-clause-some
collect-requires-clause-some g c =
    let lanes = c.args.lanes.items in
    let count : c.len-count.result ≡ length lanes = omega (arith, c.len-count.ensures) in
    let threads : c.hands_of.result ≡ recorders_of (length lanes) = c.hands_of.ensures ∙ ap recorders_of count in
    let range = recorders_range (length lanes) c.requires.lanes.some in
    let taken = taken_count lanes c.in_ok-hands.hands.items c.hands_of.result c.in_ok-hands.ensures.count c.in_ok-hands.ensures.each never 0 c.in_ok-taken.taken.items c.in_ok-taken.stop c.in_ok-taken.ensures in
    omega (arith, threads, range.0, taken)

pub collect-requires-clause-shares : goal.collect-requires-clause-shares
collect-requires-clause-shares g c =
    let count : c.len-count.result ≡ length c.args.lanes.items = omega (arith, c.len-count.ensures) in
    shares c.args.lanes.items c.in_ok-hands.hands.items c.hands_of.result c.in_ok-hands.ensures.count c.in_ok-hands.ensures.each never 0 c.in_ok-taken.taken.items c.in_ok-taken.stop c.in_ok-taken.ensures c.len-count.result count

pub returns : goal.returns
returns g c =
    let lanes = c.args.lanes.items in
    let count : c.len-count.result ≡ length lanes = omega (arith, c.len-count.ensures) in
    let threads : c.hands_of.result ≡ recorders_of (length lanes) = c.hands_of.ensures ∙ ap recorders_of count in
    let range = recorders_range (length lanes) c.requires.lanes.some in
    take_lanes lanes c.in_ok-hands.hands.items c.hands_of.result c.in_ok-hands.ensures.count c.in_ok-hands.ensures.each never 0 c.in_ok-taken.taken.items c.in_ok-taken.stop c.in_ok-taken.ensures c.collect.result.items
    (c.collect.ensures.count ∙ count) c.collect.ensures.each threads (omega (arith, threads, range.0))
