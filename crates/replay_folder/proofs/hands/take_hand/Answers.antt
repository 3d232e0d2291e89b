use Rattle.std.proofs.Common.{◌+◌, ◌∙◌, slice_set, sym, subst, arith, rules}
use Rattle.std.proofs.lemmas.List.{length-set}
use Rattle.upload_lanes.specs.Threads.{both_stops}
use Rattle.replay_folder.proofs.HandLaws.{IsTakingHand, takes_none, next_fresh, takes_next, all_next}
use Rattle.replay_folder.proofs.hands.take_hand.Goals as goal

pub loop-k-init : goal.loop-k-init
loop-k-init g c = record { size = omega arith; taking = takes_none c.args.hand.items }

pub take_alone-requires-clause-fresh : goal.take_alone-requires-clause-fresh
take_alone-requires-clause-fresh g c κs within =
    next_fresh c.args.hand.items c.loop-k.lanes.items c.loop-k.k c.loop-k.stop c.loop-k.invariant.taking (omega arith) c.index_mut.result.now c.index_mut.ensures.value c.requires

pub loop-k-preserved : goal.loop-k-preserved
loop-k-preserved g c =
    let new = c.take_alone.new.lane in record {
      size = length-set c.loop-k.lanes.items c.loop-k.k new ∙ c.loop-k.invariant.size;
      taking = subst (IsTakingHand c.args.hand.items (slice_set c.loop-k.lanes.items c.loop-k.k new) (c.loop-k.k + 1)) {x = both_stops c.loop-k.stop c.take_alone.result} (sym c.both_stops-stop.ensures)
          (takes_next c.args.hand.items c.loop-k.lanes.items c.loop-k.k c.loop-k.stop c.loop-k.invariant.taking (omega arith) _ (search rules) c.index_mut.result.now new c.take_alone.result c.index_mut.ensures.value c.take_alone.ensures.taken c.take_alone.ensures.stops);
    }

pub returns : goal.returns
returns g c = all_next c.args.hand.items c.loop-k.lanes.items c.loop-k.k c.loop-k.stop (omega arith) c.loop-k.invariant.taking
