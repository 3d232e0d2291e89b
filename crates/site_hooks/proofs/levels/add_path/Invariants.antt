use Rattle.std.proofs.Common.{◌≡◌, length, drop}
use Rattle.xpath_child.specs.Fault.{written_steps}
use Rattle.site_hooks.proofs.StepLaws.{AddsSteps}
use Rattle.site_hooks.proofs.levels.add_path.Given as goal

abbrev pub invariant-loop-step : goal.invariant-loop-step
invariant-loop-step l = record {
  at : l.at ≡ length l.yielded;
  adds : AddsSteps (written_steps (drop 1 l.text)) l.at l.number l.fn.levels.items l.levels.items;
}
