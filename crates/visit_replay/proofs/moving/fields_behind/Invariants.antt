use Rattle.std.proofs.Common.{take}
use Rattle.visit_replay.specs.Aim.{by_path}
use Rattle.visit_replay.specs.inside.Differing.{KnowsPaths}
use Rattle.visit_replay.specs.inside.KeptFields.{Keeps}
use Rattle.visit_replay.proofs.moving.fields_behind.Given as goal

abbrev pub invariant-loop-k : goal.invariant-loop-k
invariant-loop-k l = record {
  kept : Keeps (by_path l.page) l.fields l.page (take l.k l.events);
  known : KnowsPaths l.page l.paths.paths.items;
}
