use Rattle.std.proofs.Common.{◌≡◌, ◌<◌, ◌++◌, ◌∷◌, [], length, true, All, IfOk, option_to_list, subst, sym, ap, ◌∙◌, arith}
use Rattle.std.proofs.lemmas.List.{length-append}
use Rattle.std.proofs.lemmas.List.Elements.{All-push}
use Rattle.replay_workers.specs.Draws.{IsSeatOf, is_spent, fresh_seat}
use Rattle.replay_workers.specs.Work.{HasDrawn, IsShare}
use Rattle.replay_workers.specs.inside.Shares.{IsPlaced}
use Rattle.replay_workers.specs.declared.share.Done.{Done}
use Rattle.replay_workers.specs.declared.share.Share.{Share}
use Rattle.replay_workers.proofs.Placing.{all_front, front_all, more_placed}
use Rattle.replay_workers.proofs.pool.place_all.Goals as goal

pub loop-share-preserved : goal.loop-share-preserved
loop-share-preserved c =
    let way = c.loop-share.invariant in
    let rest = c.pop.new.self.items in
    let share = c.in-Some.share in
    let done = c.in_ok-done.field-0 in
    let seats = c.loop-share.seats.items in
    let split : c.loop-share.shares.items ≡ rest ++ share ∷ [] = c.pop.ensures.items ∙ ap (λ popped. rest ++ option_to_list popped) c.in-Some.is in
    let many = ap length split ∙ length-append rest (share ∷ []) in
    let back = ap length c.push_reserved.ensures.items ∙ length-append seats (share.seat ∷ []) in
    let inside : All (λ (s : Share). IfOk s.done (λ d. All (λ (one : Done). one.number < length c.loop-share.all) d.items)) rest =
    all_front (λ (s : Share). IfOk s.done (λ d. All (λ (one : Done). one.number < length c.loop-share.all) d.items)) c.loop-share.shares.items rest share split way.within in
    record {
      size = c.place.auto.all ∙ way.size;
      count = omega (arith, many, back, way.count);
      room = omega (arith, way.room, c.push_reserved.ensures.capacity);
      within = subst (λ n. All (λ (s : Share). IfOk s.done (λ d. All (λ (one : Done). one.number < n) d.items)) rest) (sym c.place.auto.all) inside;
      stands = λ own claims sizes all.
          let before = way.stands own claims sizes all in
          let shares = front_all (IsShare own claims (fresh_seat claims)) rest share (subst (All (IsShare own claims (fresh_seat claims))) split before.0) in
          let worked : HasDrawn own (fresh_seat claims) share.seat done.items =
          subst (λ d. IfOk d (λ some. HasDrawn own (fresh_seat claims) share.seat some.items)) c.in_ok-done.was shares.1.done in (
            shares.0,
            subst (All (IsSeatOf claims)) (sym c.push_reserved.ensures.items) (All-push (IsSeatOf claims) seats share.seat before.1 shares.1.of),
            subst (All (λ seat. is_spent seat ≡ true)) (sym c.push_reserved.ensures.items) (All-push (λ seat. is_spent seat ≡ true) seats share.seat before.2 shares.1.spent),
            subst (λ them. IsPlaced own them c.place.new.all) (sym c.push_reserved.ensures.items)
                (more_placed own claims sizes.1 c.loop-share.all c.place.new.all seats share.seat done.items worked before.3 (λ x stood. c.place.ensures own x worked.outcomes stood)),
          );
    }

pub returns : goal.returns
returns c = λ own claims sizes all.
    let (_, of, spent, placed) = c.loop-share.invariant.stands own claims sizes all in
    (record { count_is = omega (arith, c.in_default.ensures.cases.0, c.loop-share.invariant.count); of = of; spent = spent }, placed)
