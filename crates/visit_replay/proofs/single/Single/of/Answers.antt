use Rattle.std.proofs.Common.{◌≡◌, ◌<◌, ◌-◌, ◌∙◌, length, sym, ap, arith}
use Rattle.visit_replay.specs.inside.Trails.{asked_at}
use Rattle.visit_replay.proofs.TellLaws.{last_none}
use Rattle.visit_replay.proofs.single.Single.of.Goals as goal

pub returns-in-None : goal.returns-in-None
returns-in-None c =
    let trail = c.args.trail in
    let items = trail.deeds.items in
    let last = c.in-Some.last in
    let less = c.in-Some.ensures.1 in
    let some = c.in-Some.ensures.0 in
    let here : last ≡ length items - 1 = omega (arith, less, c.len.ensures) in
    let below : last < length items = omega (arith, less, some, c.len.ensures) in
    sym (ap (asked_at trail) (sym here) ∙ last_none trail last below (c.asking_from.ensures.none c.in-None.is))
