use Rattle.std.proofs.Common.{◌≡◌, ◌<◌, ◌-◌, length}
use Rattle.visit_replay.specs.inside.FirstDeeds.{HavePassed}
use Rattle.visit_replay.proofs.first_deeds.FirstDeeds.walk_to.Given as goal

abbrev pub invariant-loop-place : goal.invariant-loop-place
invariant-loop-place l = record {
  passed : HavePassed l.trail l.self.from l.self.last;
  below : l.self.last < l.number;
  places : l.self.places ≡ l.fn.self.places;
}

abbrev pub decreases-loop-place : goal.decreases-loop-place
decreases-loop-place l = length l.trail.deeds.items - l.self.from
