use Rattle.page_tree.specs.Seen.{plain_trees}
use Rattle.page_tree.specs.Limits.{nodes_of_all}
use Rattle.page_tree.proofs.tree.Tree.take_apart.Given as goal

abbrev pub decreases-loop-tree : goal.decreases-loop-tree
decreases-loop-tree l = nodes_of_all (plain_trees l.left.items)
