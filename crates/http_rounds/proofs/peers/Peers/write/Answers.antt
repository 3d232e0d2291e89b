use Rattle.std.proofs.Common.{◌<◌, length, arith, refl, sym, subst}
use Rattle.http_rounds.specs.Rounds.{AreAt, PlaceSends}
use Rattle.http_rounds.proofs.Places.{at_more, over_more}
use Rattle.http_rounds.proofs.peers.Peers.write.Goals as goal

pub loop-peer-preserved : goal.loop-peer-preserved
loop-peer-preserved c =
    let below : c.loop-peer.peer-index < length c.loop-peer.peer-items = omega (arith, c.loop-peer-test.true, c.loop-peer.auto.peer-items) in
    over_more (AreAt (PlaceSends c.args.stands)) (AreAt (PlaceSends c.args.stands)) c.loop-peer.peer-index _ c.args.self.now.places.items c.loop-peer.peer-items _ c.peer-item.result c.write.new.peer c.loop-peer.invariant below refl
    c.peer-item.is refl (λ xs ys gone. at_more (PlaceSends c.args.stands) xs ys c.peer-item.result c.write.new.peer gone (subst (λ x. PlaceSends c.args.stands x c.write.new.peer) (sym c.peer-item.is) c.write.ensures))
