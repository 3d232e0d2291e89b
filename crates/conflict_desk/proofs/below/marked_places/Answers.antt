use Rattle.std.proofs.Common.{arith}
use Rattle.conflict_desk.specs.Below.{is_below_visit}
use Rattle.conflict_desk.proofs.Along.{one_more}
use Rattle.conflict_desk.proofs.Gets.{there_is}
use Rattle.conflict_desk.proofs.below.marked_places.Goals as goal

pub loop-place-preserved : goal.loop-place-preserved
loop-place-preserved c =
    let there = there_is c.args.cases.now c.loop-place.place (omega arith) in
    one_more (is_below_visit c.args.cases.now c.args.visit) c.args.cases.now c.loop-place.place there.0 there.1
    c.loop-place.places.items c.push_where.new.places.items c.is_below-is_wanted.result (c.is_below-is_wanted.ensures there.0 there.1)
    c.loop-place.invariant c.in_ok-push_where.ensures
