use Rattle.std.proofs.Common.{slice_set, subst, sym}
use Rattle.std.specs.List.{AllByRecursion}
use Rattle.upload_lanes.proofs.OnlyLaws.{one_of, takes_alone}
use Rattle.lanes_in_turn.specs.Taking.{IsFreshLane}
use Rattle.upload_lanes.specs.Threads.{AreTaken}
use Rattle.upload_lanes.proofs.alone.take_only.Goals as goal

pub take_alone-stop-requires-clause-fresh : goal.take_alone-stop-requires-clause-fresh
take_alone-stop-requires-clause-fresh g c κs within =
    let one = one_of c.args.lanes.items c.index_mut.result.now c.requires.one c.index_mut.ensures.value in
    (subst (AllByRecursion IsFreshLane) one c.requires.fresh).0

pub returns : goal.returns
returns g c =
    let allows = g.H.Halt.allows c.args.halt.now in
    let new = c.take_alone-stop.new.lane in
    let stop = c.take_alone-stop.result in
    let one = one_of c.args.lanes.items c.index_mut.result.now c.requires.one c.index_mut.ensures.value in
    subst (λ lanes. AreTaken allows 0 lanes (slice_set lanes 0 new) stop) (sym one)
    (takes_alone allows c.index_mut.result.now new stop c.take_alone-stop.ensures.taken c.take_alone-stop.ensures.stops)
