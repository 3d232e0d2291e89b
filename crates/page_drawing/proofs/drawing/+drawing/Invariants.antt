use Rattle.std.proofs.Common.{◌+◌, ◌*◌, ◌-◌, ◌<◌}
use Rattle.page_tree.specs.Limits.{nodes}
use Rattle.page_drawing.specs.Drawn.{DrawsBehind}
use Rattle.page_drawing.proofs.drawing.+drawing.Given as goal

abbrev pub decreases-draw_node : goal.decreases-draw_node
decreases-draw_node l = 5 * (nodes l.page.now - l.number) + 4

abbrev pub decreases-draw_inside : goal.decreases-draw_inside
decreases-draw_inside l = 5 * (nodes l.page.now - l.number) + 3

abbrev pub decreases-draw_content : goal.decreases-draw_content
decreases-draw_content l = 5 * (nodes l.page.now - l.number) + 2

abbrev pub decreases-draw_framed : goal.decreases-draw_framed
decreases-draw_framed l = 5 * (nodes l.page.now - l.number) + 1

abbrev pub decreases-draw_children : goal.decreases-draw_children
decreases-draw_children l = 5 * (nodes l.page.now - l.number)

abbrev pub decreases-draw_children-loop-child : goal.decreases-draw_children-loop-child
decreases-draw_children-loop-child l = l.under.end - l.child

abbrev pub invariant-draw_children-loop-child : goal.invariant-draw_children-loop-child
invariant-draw_children-loop-child l = record {
  behind : l.number < l.child;
  drawn : DrawsBehind l.initial.out.items l.out.items;
}
