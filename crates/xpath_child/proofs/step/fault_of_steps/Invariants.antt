use Rattle.std.proofs.Common.{◌≡◌, ◌+◌, length}
use denote.Text.{Utf8}
use denote.Shadow.{shadow}
use Rattle.xpath_child.specs.Fault.{first_step_fault, written_steps}
use Rattle.xpath_child.proofs.step.fault_of_steps.Given as goal

abbrev pub invariant-loop-before : goal.invariant-loop-before
invariant-loop-before l = record {
  utf8 : shadow (Utf8 l.left);
  fault : first_step_fault l._before l.start (written_steps l.left) ≡ first_step_fault 0 1 (written_steps l.text);
  room : l.start + length l.left ≡ length l.text + 1;
}
