use Rattle.std.proofs.Common.{◌≡◌, ◌+◌, ◌==◌, false, ap, arith, length, ne_eqb, refl, subst, sym, ◌∙◌}
use Rattle.upload_lanes.proofs.CollectedLaws.{hands_fresh, recorders_range, shares, take_lanes, taken_count}
use Rattle.upload_lanes.specs.Threads.{recorders_of, read_ahead, AreTaken}
use Rattle.upload_lanes.proofs.threads.take_lanes.Goals as goal

pub returns-then-len-eq1 : goal.returns-then-len-eq1
returns-then-len-eq1 g c =
    let alone : length c.args.lanes.items ≡ 1 = omega (arith, c.len.ensures, c.args.lanes.len, c.if-len-eq1.true) in
    subst (λ more. AreTaken (g.H.Halt.allows c.args.halt.now) more c.args.lanes.items c.take_only.result.0.items c.take_only.result.1) (sym (ap (read_ahead c.args.room) alone)) c.take_only.ensures

pub take_hands-requires-clause-fresh : goal.take_hands-requires-clause-fresh
take_hands-requires-clause-fresh g c κs within =
    let lanes = c.args.lanes.items in
    let count : c.len-count.result ≡ length lanes = omega (arith, c.len-count.ensures, c.args.lanes.len) in
    let recorders : c.recorders_of.result ≡ recorders_of (length lanes) = c.recorders_of.ensures ∙ ap recorders_of count in
    let range = recorders_range (length lanes) c.requires.lanes.some in
    hands_fresh lanes c.in_ok-hands.hands.items c.recorders_of.result c.in_ok-hands.ensures.count c.in_ok-hands.ensures.each c.requires.fresh (omega (arith, recorders, range.1)) c.requires.lanes.few

pub collect-requires-clause-some : goal.collect-requires-clause-some
collect-requires-clause-some g c =
    let lanes = c.args.lanes.items in
    let count : c.len-count.result ≡ length lanes = omega (arith, c.len-count.ensures, c.args.lanes.len) in
    let recorders : c.recorders_of.result ≡ recorders_of (length lanes) = c.recorders_of.ensures ∙ ap recorders_of count in
    let range = recorders_range (length lanes) c.requires.lanes.some in
    let taken = taken_count lanes c.in_ok-hands.hands.items c.recorders_of.result c.in_ok-hands.ensures.count c.in_ok-hands.ensures.each (g.H.Halt.allows c.args.halt.now) (c.args.room + 1) c.in_ok-taken.taken.items c.in_ok-taken.stop
    c.in_ok-taken.ensures in
    omega (arith, recorders, range.0, taken)

pub collect-requires-clause-shares : goal.collect-requires-clause-shares
collect-requires-clause-shares g c =
    let count : c.len-count.result ≡ length c.args.lanes.items = omega (arith, c.len-count.ensures, c.args.lanes.len) in
    shares c.args.lanes.items c.in_ok-hands.hands.items c.recorders_of.result c.in_ok-hands.ensures.count c.in_ok-hands.ensures.each (g.H.Halt.allows c.args.halt.now) (c.args.room + 1) c.in_ok-taken.taken.items c.in_ok-taken.stop
    c.in_ok-taken.ensures c.len-count.result count

pub returns : goal.returns
returns g c =
    let lanes = c.args.lanes.items in
    let count : c.len-count.result ≡ length lanes = omega (arith, c.len-count.ensures, c.args.lanes.len) in
    let recorders : c.recorders_of.result ≡ recorders_of (length lanes) = c.recorders_of.ensures ∙ ap recorders_of count in
    let range = recorders_range (length lanes) c.requires.lanes.some in
    let many : (length lanes == 1) ≡ false = ne_eqb (length lanes) 1 (λ alone. omega (arith, alone, c.len.ensures, c.args.lanes.len, c.if-len-eq1.false)) in
    let ahead : read_ahead c.args.room (length lanes) ≡ c.args.room + 1 = rw many refl in
    subst (λ more. AreTaken (g.H.Halt.allows c.args.halt.now) more lanes c.collect.result.items c.in_ok-taken.stop) (sym ahead)
    (take_lanes lanes c.in_ok-hands.hands.items c.recorders_of.result c.in_ok-hands.ensures.count c.in_ok-hands.ensures.each (g.H.Halt.allows c.args.halt.now) (c.args.room + 1) c.in_ok-taken.taken.items c.in_ok-taken.stop
    c.in_ok-taken.ensures c.collect.result.items (c.collect.ensures.count ∙ count) c.collect.ensures.each recorders (omega (arith, recorders, range.0)))
