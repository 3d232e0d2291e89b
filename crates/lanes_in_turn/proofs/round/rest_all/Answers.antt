use Rattle.std.proofs.Common.{◌≡◌, arith, slice_get, map, Some, subst}
use Rattle.indexmap.specs.IndexMap.{set_value_at}
use Rattle.lanes_in_turn.specs.Round.{without_lane}
use Rattle.lanes_in_turn.proofs.RoundLaws.{rested_step}
use Rattle.lanes_in_turn.proofs.round.rest_all.Goals as goal

pub loop-k-preserved : goal.loop-k-preserved
loop-k-preserved g c = record {
  entries = rested_step c.loop-k.k c.args.clients.now.entries c.rest_at.new.clients.entries (omega (arith, c.loop-k-test.true, c.len-k-end.ensures.len))
      (subst (λ old. (lane : _) → slice_get (map (λ entry. entry.1) old) c.loop-k.k ≡ Some lane → c.rest_at.new.clients.entries ≡ set_value_at old c.loop-k.k (without_lane lane)) c.loop-k.invariant.entries c.rest_at.ensures.entries);
  room = omega (arith, c.loop-k.invariant.room, c.rest_at.ensures.room);
}
