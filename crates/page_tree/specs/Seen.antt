-- The plain tree that a `Tree` of the code stands for.
use Rattle.std.specs.Prelude.{List, [], ◌∷◌, map}
use Rattle.page_tree.specs.Tree as plain
use Rattle.page_tree.specs.declared.tree.Tree.{Tree, fold-Tree}
use Rattle.page_tree.specs.declared.tree.Tree.TheOpen.{Tree-F}

abbrev pub trees_of : List plain.Tree → plain.Trees
trees_of [] = plain.no_trees
trees_of (t ∷ ts) = plain.tree t (trees_of ts)

-- one level, with each child already seen
abbrev pub seen_step : Tree-F plain.Tree → plain.Tree
seen_step (Tree-F.Element name attributes children) = plain.element name attributes (trees_of children.items)
seen_step (Tree-F.Words text) = plain.words text

abbrev pub plain_tree : Tree → plain.Tree
plain_tree = fold-Tree plain.Tree seen_step

abbrev pub plain_trees : List Tree → plain.Trees
plain_trees ts = trees_of (map plain_tree ts)
