use Rattle.std.proofs.Common.{◌≡◌, ◌++◌}
use Rattle.review_lists.specs.ClientView.{drawn_levels}
use Rattle.review_lists.proofs.tree_rows.add_levels.Given as goal

abbrev pub decreases-loop-left : goal.decreases-loop-left
decreases-loop-left l = l.left

abbrev pub invariant-loop-left : goal.invariant-loop-left
invariant-loop-left l = l.out.items ++ drawn_levels l.left ≡ l.initial.out.items ++ drawn_levels l.drawn
