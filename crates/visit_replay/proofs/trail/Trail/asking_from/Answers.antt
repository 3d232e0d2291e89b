use Rattle.std.proofs.Common.{◌≡◌, ◌<◌, length, is_some, false, sym, ◌∙◌, arith}
use Rattle.visit_replay.specs.inside.Trails.{asked_at}
use Rattle.visit_replay.proofs.TrailLaws.{none_more}
use Rattle.visit_replay.proofs.trail.Trail.asking_from.Goals as goal

pub loop-place-preserved : goal.loop-place-preserved
loop-place-preserved c =
    let trail = c.args.self.now in
    let place = c.loop-place.place in
    let below : place < length trail.deeds.items = omega arith in
    let none : is_some (asked_at trail place) ≡ false = sym c.asks.ensures ∙ c.if-asks.false in
    let more = none_more trail c.args.from place below none c.loop-place.invariant.rest c.loop-place.invariant.none in
    record { rest = more.0; none = more.1 }
