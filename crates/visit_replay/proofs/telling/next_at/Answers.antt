use Rattle.visit_replay.proofs.TellLaws.{told_next}
use Rattle.visit_replay.proofs.telling.next_at.Goals as goal

pub returns-clause-some : goal.returns-clause-some
returns-clause-some c =
    told_next c.args.trail.now c.args.from c.in_ok-place.place c.in_ok-place.ensures.some.2 c.in_ok-place.ensures.some.1 c.in_ok-place.ensures.asks
