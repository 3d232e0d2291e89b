use Rattle.std.proofs.Common.{arith, ◌≡◌, ◌∷◌, ◌∙◌, ap, length, subst, sym}
use Rattle.round_robin.proofs.Turns.{HasGiven, IsDealing, dealt_more, dealt_all, written}
use Rattle.round_robin.proofs.dealt.deal.Goals as goal

pub loop-item-preserved : goal.loop-item-preserved
loop-item-preserved g c =
    let hands = c.args.hands in
    let before = c.loop-item.dealt in
    let all = c.args.items.items in
    let count : length c.give.new.dealt ≡ hands =
    omega (arith, c.in_ok-give.ensures.count, ap length c.as_mut_slice.ensures.value, c.loop-item.invariant.count) in
    let same = written before.items c.give.new.dealt before.len (omega (arith, count)) in
    let gives : HasGiven c.loop-item.at c.in-Some.item before.items c.give.new.dealt =
    subst (λ dealt. HasGiven c.loop-item.at c.in-Some.item dealt c.give.new.dealt) c.as_mut_slice.ensures.value c.in_ok-give.ensures.each in
    let dealing : IsDealing hands c.loop-item.at before.items (c.in-Some.item ∷ c.next.new.self.rest.items) all =
    subst (λ rest. IsDealing hands c.loop-item.at before.items rest all) c.in-Some.ensures.steps.0 c.loop-item.invariant.dealing in
    record {
      within = c.next-at.ensures.within;
      count = ap length same ∙ count;
      dealing = subst (λ dealt. IsDealing hands c.next-at.result dealt c.next.new.self.rest.items all) (sym same)
          (dealt_more hands c.loop-item.at c.next-at.result before.items c.give.new.dealt c.in-Some.item c.next.new.self.rest.items all
          c.loop-item.invariant.within (record { within = c.next-at.ensures.within; round = c.next-at.ensures.round }) gives dealing);
    }

pub returns-clause-each : goal.returns-clause-each
returns-clause-each g c = dealt_all c.args.hands c.loop-item.at c.loop-item.dealt.items c.loop-item.item-iterator.rest.items c.args.items.items
    c.loop-item.invariant.within c.loop-item.invariant.count (omega (arith, c.in-None.ensures.steps)) c.loop-item.invariant.dealing
