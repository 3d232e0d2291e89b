use Rattle.std.proofs.Common.{◌≡◌, ◌+◌, length, subst, sym, arith}
use Rattle.replay_workers.proofs.Ordering.{IsFront, next_front, all_sorted}
use Rattle.replay_workers.proofs.in_order.by_address.Goals as goal

pub loop-k-preserved : goal.loop-k-preserved
loop-k-preserved c =
    let visits = c.args.visits.now in
    let k = c.loop-k.k in
    record {
      front = subst (IsFront visits (k + 1)) (sym c.push_reserved.ensures.items)
          (next_front visits k c.loop-k.all.items c.index-visits-k.result c.loop-k.invariant.front c.loop-k-test.true c.index-visits-k.is);
      room = omega (arith, c.loop-k.invariant.room, c.push_reserved.ensures.capacity);
    }

pub returns : goal.returns
returns c =
    let visits = c.args.visits.now in
    let over : c.loop-k.k ≡ length visits = omega (arith, c.loop-k-test.false, c.loop-k.auto.k-end) in
    all_sorted visits c.loop-k.all.items c.sort_unstable_by.new.self.items (subst (λ k. IsFront visits k c.loop-k.all.items) over c.loop-k.invariant.front)
    c.sort_unstable_by.ensures.permutation
    (omega (arith, c.sort_unstable_by.ensures.len, c.sort_unstable_by.new.self.ok, c.loop-k.all.ok))
