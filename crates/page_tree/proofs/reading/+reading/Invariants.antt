use Rattle.std.proofs.Common.{◌+◌, ◌*◌, drop}
use Rattle.serde_json.specs.View.{items_view}
use Rattle.page_tree.proofs.ReadingLaws.{ReadSoFar}
use Rattle.page_tree.proofs.reading.+reading.Given as goal

abbrev pub decreases-read_node : goal.decreases-read_node
decreases-read_node l = 5 * l.levels + 2

abbrev pub decreases-read_object : goal.decreases-read_object
decreases-read_object l = 5 * l.levels + 1

abbrev pub decreases-read_items : goal.decreases-read_items
decreases-read_items l = 5 * l.levels + 3

abbrev pub invariant-read_items-loop-item : goal.invariant-read_items-loop-item
invariant-read_items-loop-item l = ReadSoFar l.levels l.parent l.position l.initial.table l.table (items_view l.items) (items_view (drop l.item-index l.items))
