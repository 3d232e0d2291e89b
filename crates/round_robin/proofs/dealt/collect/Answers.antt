use Rattle.std.proofs.Common.{arith, ◌≡◌, suc, [], ◌∷◌, ◌++◌, ◌+◌, ◌-◌, ◌∙◌, refl, slice_get, ap, length, subst, sym}
use Rattle.round_robin.proofs.Turns.{HasTaken, IsTurned, collected_none, collected_some, collected_more, collected_all, collected_so, is_next, written}
use Rattle.round_robin.proofs.dealt.collect.Goals as goal

pub loop-k-init : goal.loop-k-init
loop-k-init g c =
    let hands = c.args.hands in
    let turned = c.reverse_each.new.hands in
    let count : length turned ≡ length hands.items = c.reverse_each.ensures.count ∙ ap length c.as_mut_slice.ensures.value in
    let same = written hands.items turned hands.len (omega (arith, count)) in
    let each : IsTurned hands.items turned = subst (λ first. IsTurned first turned) c.as_mut_slice.ensures.value c.reverse_each.ensures.each in
    record {
      within = c.requires.some;
      count = ap length same ∙ count;
      done = ap length c.requires.none;
      room = c.requires.room;
      collecting = collected_so _ turned _ [] _ c.args.count same c.requires.none (omega arith)
          (collected_none (length hands.items) c.args.count hands.items turned each c.requires.shares);
    }

pub take-requires-clause-some : goal.take-requires-clause-some
take-requires-clause-some g c = λ held there.
    let left : c.args.count - c.loop-k._k ≡ suc (c.args.count - (c.loop-k._k + 1)) = omega arith in
    collected_some (length c.args.hands.items) c.loop-k.at c.args.hands.items c.loop-k.hands.items c.loop-k.items.items (c.args.count - c.loop-k._k)
    (c.args.count - (c.loop-k._k + 1)) c.loop-k.invariant.within left c.loop-k.invariant.collecting held
    (ap (λ hands. slice_get hands c.loop-k.at) (sym c.as_mut_slice-in-loop-k.ensures.value) ∙ there)

pub loop-k-preserved : goal.loop-k-preserved
loop-k-preserved g c =
    let hands = length c.args.hands.items in
    let first = c.args.hands.items in
    let before = c.loop-k.hands in
    let lent = c.as_mut_slice-in-loop-k.ensures.value in
    let count : length c.take.new.hands ≡ hands = c.take.ensures.count ∙ ap length lent ∙ c.loop-k.invariant.count in
    let same = written before.items c.take.new.hands before.len (omega (arith, count, c.loop-k.invariant.count)) in
    let taken : HasTaken c.loop-k.at c.take.result before.items c.take.new.hands =
    subst (λ hands. HasTaken c.loop-k.at c.take.result hands c.take.new.hands) lent c.take.ensures.each in
    let less = c.args.count - (c.loop-k._k + 1) in
    let left : c.args.count - c.loop-k._k ≡ suc less = omega arith in
    let size : c.len.result ≡ hands = omega (arith, c.loop-k.invariant.count) in
    let following = is_next hands c.len.result c.loop-k.at c.next-at.result size c.next-at.ensures.within c.next-at.ensures.round in
    record {
      within = following.within;
      count = ap length same ∙ count;
      done = omega arith;
      room = omega arith;
      collecting = collected_so _ c.take.new.hands _ (c.loop-k.items.items ++ c.take.result ∷ []) _ less same c.push_reserved.ensures.items refl
          (collected_more hands c.loop-k.at c.next-at.result first before.items c.take.new.hands c.take.result c.loop-k.items.items
          (c.args.count - c.loop-k._k) less c.loop-k.invariant.within following left taken c.loop-k.invariant.collecting);
    }

pub returns-clause-each : goal.returns-clause-each
returns-clause-each g c =
    collected_all (length c.args.hands.items) c.loop-k.at c.args.hands.items c.loop-k.hands.items c.loop-k.items.items (c.args.count - c.loop-k._k)
    c.loop-k.invariant.within refl c.loop-k.invariant.count (omega arith) c.loop-k.invariant.collecting
