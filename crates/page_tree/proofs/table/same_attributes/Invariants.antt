use Rattle.std.proofs.Common.{◌≡◌, ◌↔◌, ◌≤◌, ◌+◌, ◌*◌, length}
use Rattle.page_tree.specs.inside.Rows.{attributes_from}
use Rattle.page_tree.proofs.table.same_attributes.Given as goal

abbrev pub invariant-loop-count : goal.invariant-loop-count
invariant-loop-count l = record {
  within : l.at + 2 * l.count ≤ length l.texts;
  other_within : l.other_at + 2 * l.count ≤ length l.others;
  same : (attributes_from l.texts l.at l.count ≡ attributes_from l.others l.other_at l.count)
      ↔ (attributes_from l.texts l.initial.at l.initial.count ≡ attributes_from l.others l.initial.other_at l.initial.count);
}

abbrev pub decreases-loop-count : goal.decreases-loop-count
decreases-loop-count l = l.count
