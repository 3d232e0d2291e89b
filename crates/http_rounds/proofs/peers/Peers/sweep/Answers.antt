use Rattle.std.proofs.Common.{◌<◌, length, arith, refl, sym, subst}
use Rattle.http_rounds.specs.Rounds.{AreAt, PlaceBegins}
use Rattle.http_rounds.proofs.Places.{at_more, over_more}
use Rattle.http_rounds.proofs.peers.Peers.sweep.Goals as goal

pub loop-peer-preserved : goal.loop-peer-preserved
loop-peer-preserved c =
    let below : c.loop-peer.peer-index < length c.loop-peer.peer-items = omega (arith, c.loop-peer-test.true, c.loop-peer.auto.peer-items) in
    over_more (AreAt PlaceBegins) (AreAt PlaceBegins) c.loop-peer.peer-index _ c.args.self.now.places.items c.loop-peer.peer-items _ c.peer-item.result c.sweep.new.peer c.loop-peer.invariant below refl
    c.peer-item.is refl (λ xs ys gone. at_more PlaceBegins xs ys c.peer-item.result c.sweep.new.peer gone (subst (λ x. PlaceBegins x c.sweep.new.peer) (sym c.peer-item.is) c.sweep.ensures))
