use Rattle.visit_replay.specs.inside.OneEvent.{aimed}
use Rattle.visit_replay.proofs.event_places.place_by.Goals as goal

pub returns-clause-within : goal.returns-clause-within
returns-clause-within c =
    (c.target_of.ensures (aimed c.args.aiming.now c.args.recorded.now c.args.repaired.now c.args.event.now) c.args.repaired.now c.in_ok-located.ensures.aims).0

pub returns-clause-place : goal.returns-clause-place
returns-clause-place c =
    (c.target_of.ensures (aimed c.args.aiming.now c.args.recorded.now c.args.repaired.now c.args.event.now) c.args.repaired.now c.in_ok-located.ensures.aims).1
