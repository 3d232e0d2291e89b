use Rattle.std.proofs.Common.{◌≡◌, ◌∷◌, [], length, ap, subst, sym, ◌∙◌, arith, rules}
use Rattle.std.specs.List.{All}
use Rattle.std.proofs.lemmas.List.{length-append, nil_from_length}
use Rattle.std.proofs.lemmas.List.Elements.{All-head, All-tail}
use Rattle.upload_lanes.specs.inside.Party.{IsFreshHand}
use Rattle.replay_folder.proofs.HandLaws.{TakesRest, all_hands_taken, rest_taken}
use Rattle.replay_folder.proofs.hands.take_in_turn.Goals as goal

pub take_hand-requires-after_bounds : goal.take_hand-requires-after_bounds
take_hand-requires-after_bounds g c κs within =
    let first : c.loop-hand.hand-iterator.rest.items ≡ c.in-Some.hand ∷ c.next.new.self.rest.items = search rules in
    (All-head IsFreshHand c.in-Some.hand c.next.new.self.rest.items (subst (All IsFreshHand) first c.loop-hand.invariant.fresh)).fresh

pub loop-hand-preserved : goal.loop-hand-preserved
loop-hand-preserved g c =
    let first : c.loop-hand.hand-iterator.rest.items ≡ c.in-Some.hand ∷ c.next.new.self.rest.items = search rules in
    let one = c.take_hand.result in
    let next = c.next.new.self.rest.items in
    let size : length c.loop-hand.hand-iterator.rest.items ≡ length (c.in-Some.hand ∷ next) = ap length first in
    let more = ap length c.push_reserved.ensures.items ∙ length-append c.loop-hand.taken.items (one ∷ []) in
    record {
      fresh = All-tail IsFreshHand c.in-Some.hand next (subst (All IsFreshHand) first c.loop-hand.invariant.fresh);
      each = subst (λ them. TakesRest c.args.hands.items them next) (sym c.push_reserved.ensures.items)
          (rest_taken c.args.hands.items c.loop-hand.taken.items c.in-Some.hand next c.loop-hand.hand-iterator.rest.items one first c.take_hand.ensures c.loop-hand.invariant.each);
      room = omega (arith, size, more, c.push_reserved.ensures.capacity, c.loop-hand.invariant.room);
    }

pub returns : goal.returns
returns g c =
    let rest = c.loop-hand.hand-iterator.rest in
    let none = nil_from_length rest.items (sym rest.ok.0 ∙ c.in-None.ensures.steps.0) in
    all_hands_taken c.args.hands.items c.loop-hand.taken.items rest.items none c.loop-hand.invariant.each
