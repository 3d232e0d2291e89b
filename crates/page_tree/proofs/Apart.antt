-- A tree that is taken apart: what is left has fewer nodes with each one that goes.
use Rattle.std.proofs.Common.{◌≡◌, ℕ, ◌+◌, ◌<◌, List, [], ◌∷◌, ◌++◌, Vec, ap, arith}
use Rattle.std.specs.declared.alloc.Global.{Global}
use Rattle.page_tree.specs.Tree.{Attribute}
use Rattle.page_tree.specs.Limits.{nodes, nodes_of_all}
use Rattle.page_tree.specs.Seen.{plain_tree, plain_trees}
use Rattle.page_tree.specs.declared.tree.Tree as code
use Rattle.page_tree.proofs.BuildingLaws.{seen-Element}
use Rattle.page_tree.proofs.Counting.{nodes-positive}

pub nodes-append : (xs ys : List code.Tree) → nodes_of_all (plain_trees (xs ++ ys)) ≡ nodes_of_all (plain_trees xs) + nodes_of_all (plain_trees ys)
nodes-append [] ys = omega arith
nodes-append (x ∷ xs) ys = omega (arith, nodes-append xs ys)

pub nodes-one : (xs : List code.Tree) (x : code.Tree) → nodes_of_all (plain_trees (xs ++ x ∷ [])) ≡ nodes_of_all (plain_trees xs) + nodes (plain_tree x)
nodes-one xs x = omega (arith, nodes-append xs (x ∷ []))

pub element_apart : (left : List code.Tree) (name : List ℕ) (attributes : List Attribute) (children : Vec code.Tree Global)
    → nodes_of_all (plain_trees (left ++ children.items)) < nodes_of_all (plain_trees left) + nodes (plain_tree (code.Element name attributes children))
element_apart left name attributes children = omega (arith, nodes-append left children.items, ap nodes (seen-Element name attributes children))

pub words_apart : (left : List code.Tree) (t : code.Tree) → nodes_of_all (plain_trees left) < nodes_of_all (plain_trees left) + nodes (plain_tree t)
words_apart left t = omega (arith, nodes-positive (plain_tree t))
