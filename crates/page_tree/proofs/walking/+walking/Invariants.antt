use Rattle.std.proofs.Common.{◌≡◌, ◌+◌, ◌*◌, length}
use Rattle.serde_json.specs.Events.{items_len}
use Rattle.json_document.specs.Standing.{items_behind}
use Rattle.page_tree.proofs.ReadingLaws.{ReadSoFar}
use Rattle.page_tree.proofs.walking.+walking.Given as goal

abbrev pub decreases-walk_node : goal.decreases-walk_node
decreases-walk_node l = 5 * l.levels + 2

abbrev pub decreases-walk_element : goal.decreases-walk_element
decreases-walk_element l = 5 * l.levels + 1

abbrev pub decreases-walk_items : goal.decreases-walk_items
decreases-walk_items l = 5 * l.levels + 3

abbrev pub invariant-walk_items-loop-place : goal.invariant-walk_items-loop-place
invariant-walk_items-loop-place l =
    ReadSoFar l.levels l.parent l.position l.initial.table l.table (items_behind l.initial.rest) (items_behind l.rest)
    × (l.position + items_len (items_behind l.rest) ≡ items_len (items_behind l.initial.rest))

abbrev pub decreases-walk_items-loop-place : goal.decreases-walk_items-loop-place
decreases-walk_items-loop-place l = length l.rest
