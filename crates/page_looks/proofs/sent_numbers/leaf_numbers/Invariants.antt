use Rattle.std.proofs.Common.{◌++◌}
use Rattle.page_looks.specs.inside.InForms.{AreInForms}
use Rattle.page_looks.specs.inside.Sends.{NumbersLeaves}
use Rattle.page_looks.proofs.sent_numbers.leaf_numbers.Given as goal

abbrev pub invariant-loop-number : goal.invariant-loop-number
invariant-loop-number l = record {
  leaves : NumbersLeaves l.below l.initial.own l.own l.numbers.items l.fresh l.page l.number;
  in_forms : AreInForms (l.below.texts ++ l.own.texts) l.fresh l.page l.in_forms;
}
