use Rattle.std.proofs.Common.{◌≡◌, ◌+◌, [], ◌∷◌, ◌++◌, length, drop, zip, ap, subst, ◌∙◌, arith, length-append}
use Rattle.std.specs.Vec.Iter.{into_iter_items}
use Rattle.replay_workers.specs.inside.Clients.{visits_of_all, parts_of_all}
use Rattle.replay_workers.proofs.ByClient.{one_cut, drop_here}
use Rattle.replay_workers.proofs.by_client.parts_of.Goals as goal

pub loop-visits-preserved : goal.loop-visits-preserved
loop-visits-preserved c =
    let way = c.loop-visits.invariant in
    let clients = c.args.clients.now in
    let visits = c.visits-item.result in
    let others = drop (c.loop-visits.visits-index + 1) clients in
    let parts = c.loop-visits.parts.items in
    let front = c.in_ok-own.own.items in
    let next = into_iter_items c.take_front.new.rest in
    let rest = into_iter_items c.loop-visits.rest in
    let whole = parts_of_all clients c.args.own.items in
    let split : drop c.loop-visits.visits-index clients ≡ visits ∷ others =
    drop_here clients c.loop-visits.visits-index visits c.loop-visits-test.true c.visits-item.is in
    let pushed = c.push_reserved.ensures.items in
    record {
      room = omega (
        arith,
        way.room,
        ap length split,
        ap length pushed ∙ length-append parts (zip visits.now front ∷ []),
        c.push_reserved.ensures.capacity,
      );
      enough = omega (
        arith,
        way.enough,
        ap (λ them. length (visits_of_all them)) split,
        length-append visits.now (visits_of_all others),
        ap length c.in_ok-own.ensures.front,
        length-append front next,
        c.in_ok-own.ensures.count,
      );
      cut = ap (λ them. them ++ parts_of_all others next) pushed
          ∙ one_cut others visits front rest next parts whole
          (subst (λ them. parts ++ parts_of_all them rest ≡ whole) split way.cut) c.in_ok-own.ensures.count c.in_ok-own.ensures.front;
    }
