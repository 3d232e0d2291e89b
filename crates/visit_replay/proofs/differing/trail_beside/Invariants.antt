use Rattle.visit_replay.specs.inside.Differing.{AreLookedUp}
use Rattle.visit_replay.specs.inside.OneEvent.{aimed}
use Rattle.visit_replay.specs.inside.Trails.{IsTrailOf}
use Rattle.visit_replay.proofs.differing.trail_beside.Given as goal

abbrev pub invariant-loop-k : goal.invariant-loop-k
invariant-loop-k l = record {
  walked : IsTrailOf (aimed l.aiming l.visit.page l.new) l.visit l.new l.k l.trail;
  known : AreLookedUp l.visit.page l.new l.lookups;
}
