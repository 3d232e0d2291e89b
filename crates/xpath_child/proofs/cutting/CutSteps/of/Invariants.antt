use Rattle.std.proofs.Common.{◌≡◌, Some, length}
use denote.Text.{Utf8}
use denote.Shadow.{shadow}
use Rattle.xpath_child.specs.inside.Search.{AreSteps, steps_in, steps_left}
use Rattle.xpath_child.proofs.cutting.CutSteps.of.Given as goal

abbrev pub invariant-loop-before : goal.invariant-loop-before
invariant-loop-before g l = record {
  utf8 : shadow (Utf8 l.left);
  count : length l.cut.items ≡ l._before;
  are : AreSteps (Some l.left);
  steps : steps_left l.cut.items (Some l.left) ≡ steps_in (Some l.text);
}
