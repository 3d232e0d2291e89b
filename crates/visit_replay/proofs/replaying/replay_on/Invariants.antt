use Rattle.std.proofs.Common.{◌≡◌, ℕ, ◌<◌, None, take}
use Rattle.visit_replay.specs.Outcome.{conflict_of}
use Rattle.visit_replay.specs.inside.Differing.{AreLookedUp}
use Rattle.visit_replay.specs.inside.OneEvent.{aimed, names_aimed}
use Rattle.visit_replay.specs.inside.Trails.{IsTrailOf}
use Rattle.visit_replay.specs.inside.TouchedFields.{AreTouched}
use Rattle.visit_replay.proofs.replaying.replay_on.Given as goal

abbrev pub invariant-loop-i : goal.invariant-loop-i
invariant-loop-i g l = record {
  walked : IsTrailOf (aimed l.aiming l.visit.page l.new) l.visit l.new l.i l.trail;
  touched : AreTouched (names_aimed l.aiming) l.visit.page l.new l.touched (take l.i l.visit.events);
  known : AreLookedUp l.visit.page l.new l.lookups;
  good : (k : ℕ) → k < l.i → conflict_of (names_aimed l.aiming) l.visit.page l.new l.visit.events k ≡ None;
}
