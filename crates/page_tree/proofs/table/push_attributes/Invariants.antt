use Rattle.std.proofs.Common.{◌≡◌, ◌≤◌, ◌++◌, drop, length}
use Rattle.page_tree.specs.inside.Rows.{texts_of_attributes}
use Rattle.page_tree.proofs.table.push_attributes.Given as goal

abbrev pub invariant-loop-name : goal.invariant-loop-name
invariant-loop-name l =
    (l.texts ++ texts_of_attributes (drop l.name-index l.attributes) ≡ l.initial.texts ++ texts_of_attributes l.attributes)
    × (length l.initial.texts ≤ length l.texts)
