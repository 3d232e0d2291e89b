use Rattle.visit_replay.specs.Aim.{by_path}
use Rattle.visit_replay.specs.inside.Differing.{KnowsPaths}
use Rattle.visit_replay.specs.inside.Trails.{IsTrailOf}
use Rattle.visit_replay.proofs.differing.own_trail.Given as goal

abbrev pub invariant-loop-k : goal.invariant-loop-k
invariant-loop-k l = record {
  walked : IsTrailOf (by_path l.visit.page) l.visit l.visit.page l.k l.trail;
  known : KnowsPaths l.visit.page l.paths.paths.items;
}
