use Rattle.std.proofs.Common.{◌≡◌, ◌≤◌, ◌+◌, ◌*◌, length, true}
use Rattle.page_tree.specs.Look.{value_of}
use Rattle.page_tree.specs.Limits.{names_of, is_ascending}
use Rattle.page_tree.specs.inside.Rows.{attributes_from}
use Rattle.page_tree.proofs.table.value_among.Given as goal

abbrev pub invariant-loop-count : goal.invariant-loop-count
invariant-loop-count l = record {
  within : l.at + 2 * l.count ≤ length l.texts;
  ascending : is_ascending (names_of (attributes_from l.texts l.at l.count)) ≡ true;
  same : value_of l.name (attributes_from l.texts l.at l.count) ≡ value_of l.name (attributes_from l.texts l.initial.at l.initial.count);
}

abbrev pub decreases-loop-count : goal.decreases-loop-count
decreases-loop-count l = l.count
