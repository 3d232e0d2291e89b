use Rattle.std.proofs.Common.{◌≡◌, ◌<◌}
use Rattle.page_tree.specs.Limits.{nodes}
use Rattle.page_tree.specs.Number.{place_numbered}
use Rattle.visit_replay.specs.Aim.{form_around}
use Rattle.visit_replay.proofs.changes.form_around.Given as goal

abbrev pub invariant-loop-parent : goal.invariant-loop-parent
invariant-loop-parent l = record {
  there : l.at < nodes l.page;
  around : form_around l.page (place_numbered l.at l.page) ≡ form_around l.page (place_numbered l.number l.page);
}

abbrev pub decreases-loop-parent : goal.decreases-loop-parent
decreases-loop-parent l = l.at
