use Rattle.std.proofs.Common.{◌-◌, length, vec_len}
use Rattle.visit_tree.specs.Tree.{tree_order}
use Rattle.visit_tree.proofs.Walks.{IsWalking, next_in}
use Rattle.visit_tree.proofs.ordering.walk.Given as goal

abbrev pub invariant-loop-at : goal.invariant-loop-at
invariant-loop-at l =
    IsWalking (tree_order l.parents) (length l.parents) (next_in l.firsts l.followers) l.at l.order.items

abbrev pub decreases-loop-at : goal.decreases-loop-at
decreases-loop-at l = length (tree_order l.parents) - vec_len l.order
