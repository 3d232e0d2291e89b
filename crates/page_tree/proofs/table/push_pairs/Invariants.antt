use Rattle.std.proofs.Common.{◌≡◌, ◌≤◌, ◌++◌, drop, length}
use Rattle.page_tree.specs.inside.Rows.{texts_of_attributes}
use Rattle.page_tree.specs.inside.Walking.{attributes_seen}
use Rattle.page_tree.proofs.table.push_pairs.Given as goal

abbrev pub invariant-loop-name : goal.invariant-loop-name
invariant-loop-name l =
    (l.texts ++ texts_of_attributes (attributes_seen (drop l.name-index l.attributes)) ≡ l.initial.texts ++ texts_of_attributes (attributes_seen l.attributes))
    × (length l.initial.texts ≤ length l.texts)
