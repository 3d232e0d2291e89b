use Rattle.std.proofs.Common.{◌<◌, List, length, Option, arith, refl, sym, subst}
use Rattle.http_rounds.specs.Rounds.{AreAnswered, PlaceAnswers}
use Rattle.http_rounds.specs.declared.peer.Peer.{Peer}
use Rattle.http_rounds.proofs.Places.{answered_more, over_more}
use Rattle.http_rounds.proofs.peers.read_all.Goals as goal

pub loop-peer-preserved : goal.loop-peer-preserved
loop-peer-preserved g c =
    let answers = g.S.Service.answers in
    let below : c.loop-peer.peer-index < length c.loop-peer.places = omega (arith, c.loop-peer-test.true, c.loop-peer.auto.places) in
    over_more (λ (olds news : List (Option Peer)). AreAnswered answers c.args.service.now olds news c.loop-peer.service) (λ (olds news : List (Option Peer)). AreAnswered answers c.args.service.now olds news c.read_next.new.service)
    c.loop-peer.peer-index _ c.args.places.now c.loop-peer.places _ c.peer-item.result c.read_next.new.peer c.loop-peer.invariant below refl c.peer-item.is refl
    (λ xs ys gone. answered_more answers c.args.service.now c.loop-peer.service c.read_next.new.service xs ys c.peer-item.result c.read_next.new.peer gone (subst (λ x. PlaceAnswers answers c.loop-peer.service x c.read_next.new.peer c.read_next.new.service) (sym c.peer-item.is) c.read_next.ensures))
