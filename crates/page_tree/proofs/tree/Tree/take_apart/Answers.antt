use Rattle.std.proofs.Common.{rules, ◌≡◌, ◌+◌, ◌<◌, [], ◌∷◌, ◌++◌, ap, arith}
use Rattle.page_tree.specs.Seen.{plain_tree, plain_trees}
use Rattle.page_tree.specs.Limits.{nodes, nodes_of_all}
use Rattle.page_tree.proofs.Apart.{nodes-one}
use Rattle.page_tree.proofs.tree.Tree.take_apart.Goals as goal

pub loop-tree-smaller : goal.loop-tree-smaller
loop-tree-smaller c =
    let popped : c.loop-tree.left.items ≡ c.pop.new.self.items ++ c.in-Some.tree ∷ [] = search rules in
    let fewer : nodes_of_all (plain_trees c.leave_children.new.left.items) < nodes_of_all (plain_trees c.pop.new.self.items) + nodes (plain_tree c.in-Some.tree) = search rules in
    omega (arith, fewer, ap (λ ts. nodes_of_all (plain_trees ts)) popped, nodes-one c.pop.new.self.items c.in-Some.tree)
