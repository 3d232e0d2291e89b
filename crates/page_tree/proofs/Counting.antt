-- How many children and nodes trees have.
use Rattle.std.proofs.Common.{◌≡◌, suc, ◌<◌, ◌≤◌, List, [], ◌∷◌, length, refl, ap, arith}
use Rattle.page_tree.specs.Tree.{Tree, element, words, Trees, no_trees, tree}
use Rattle.page_tree.specs.Limits.{nodes, nodes_of_all}
use Rattle.page_tree.specs.Look.{count}
use Rattle.page_tree.specs.declared.tree.Tree as code
use Rattle.page_tree.specs.Seen.{plain_trees}

pub count-all_seen : (ts : List code.Tree) → count (plain_trees ts) ≡ length ts
count-all_seen [] = refl
count-all_seen (t ∷ ts) = ap suc (count-all_seen ts)

pub nodes-positive : (t : Tree) → 0 < nodes t
nodes-positive (element name attributes children) = omega arith
nodes-positive (words text) = omega arith

pub count-nodes : (ts : Trees) → count ts ≤ nodes_of_all ts
count-nodes no_trees = omega arith
count-nodes (tree t ts) = omega (arith, nodes-positive t, count-nodes ts)
