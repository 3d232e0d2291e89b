use Rattle.std.proofs.Common.{arith, ◌≡◌, ◌∙◌, [], slice_get, ap, sym, Vec}
use Rattle.std.specs.Global.{Global}
use Rattle.round_robin.proofs.Turns.{each_push}
use Rattle.round_robin.proofs.dealt.empty.Goals as goal

pub loop-k-preserved : goal.loop-k-preserved
loop-k-preserved g c = record {
  count = omega arith;
  room = c.push_reserved.ensures.capacity ∙ c.loop-k.invariant.room;
  each = λ hand held there.
      each_push (λ (hand : Vec g.row.T.Denot Global). hand.items ≡ []) c.loop-k.dealt.items c.new.result
      c.loop-k.invariant.each c.new.ensures.items hand held (ap (λ hands. slice_get hands hand) (sym c.push_reserved.ensures.items) ∙ there);
}
