use Rattle.std.proofs.Common.{◌≡◌, ◌-◌, ◌∷◌, ◌++◌, length, map, Some, None}
use Rattle.visit_replay.specs.inside.Boards.{IsOn}
use Rattle.visit_replay.specs.inside.Differing.{AreCompared, other_by}
use Rattle.visit_replay.specs.inside.FirstDeeds.{FindsFirst}
use Rattle.visit_replay.specs.inside.Marks.{AreMarks}
use Rattle.visit_replay.specs.inside.Told.{told_marked}
use Rattle.visit_replay.specs.inside.Trails.{asked_from}
use Rattle.visit_replay.proofs.differing.marks_of.Given as goal

abbrev pub invariant-loop-place : goal.invariant-loop-place
invariant-loop-place l = record {
  firsts : FindsFirst l.own l.firsts;
  was : IsOn l.own.page l.own.deeds.items l.was;
  was_names : l.was.names.now ≡ l.fresh;
  is : IsOn l.trail.page l.trail.deeds.items l.is;
  is_names : l.is.names.now ≡ l.fresh;
  known : AreCompared l.fresh l.compared.all.items;
  within : AreMarks l.own l.marks.items;
  told : map (told_marked (Some l.own)) l.marks.items ++ map (other_by l.fresh l.own) (asked_from l.trail l.from)
      ≡ None ∷ map (other_by l.fresh l.own) (asked_from l.trail 0);
}

abbrev pub decreases-loop-place : goal.decreases-loop-place
decreases-loop-place l = length l.trail.deeds.items - l.from
