-- A page as the table of its nodes, in document order: the lines that the rows of the code stand for.
use Rattle.std.specs.Prelude.{◌≡◌, ℕ, zero, suc, ◌+◌, List, [], ◌∷◌, ◌++◌, Option, unwrap_or}
use Rattle.std.specs.Option.{option_map_or}
use Rattle.page_tree.specs.Tree.{Attribute, Tree, element, words, Trees, no_trees, tree}
use Rattle.page_tree.specs.Limits.{nodes, IsPage}
use Rattle.page_tree.specs.Look.{children_of, nth_child, name_of, count, attributes_of, words_of}
use Rattle.page_tree.specs.Number.{first_trees}
use Rattle.page_tree.specs.declared.rows.Spot.{Spot}

pub record Line : Type 0 where
  -- an element's name, and what a text says
  pub name : Option (List ℕ)
  pub text : List ℕ
  pub attributes : List Attribute
  pub spot : Spot
  -- the number behind those of the nodes under it
  pub end : ℕ
  -- how many children it has
  pub children : ℕ

-- that of a node, whose own parts are the tree's
abbrev pub line_on : Tree → Spot → ℕ → ℕ → Line
line_on t spot end n =
    record { name = name_of t; text = words_of t; attributes = attributes_of t; spot = spot; end = end; children = n }

-- ---- the table of a tree

-- where the i-th child of that parent stands, from 0 on
abbrev pub nth_spot : ℕ → ℕ → Spot
nth_spot parent i = record { parent = parent; position = i }

abbrev pub line_of : Spot → ℕ → Tree → Line
line_of spot at t = line_on t spot (at + nodes t) (count (children_of t))

abbrev mutual
  -- of a node that has that number and stands there
  pub lines_of : Spot → ℕ → Tree → List Line
  lines_of spot at (element name attributes children) =
      line_of spot at (element name attributes children) ∷ lines_from at 0 (suc at) children
  lines_of spot at (words text) = line_of spot at (words text) ∷ []

  -- of the children of that parent, from the i-th on
  pub lines_from : ℕ → ℕ → ℕ → Trees → List Line
  lines_from parent i at no_trees = []
  lines_from parent i at (tree t ts) =
      lines_of (nth_spot parent i) at t ++ lines_from parent (suc i) (at + nodes t) ts

abbrev pub lines : Tree → List Line
lines t = lines_of (nth_spot 0 0) 0 t

-- ---- the tree of a table

abbrev pub trees_behind : ℕ → Trees → Trees
trees_behind zero ts = ts
trees_behind (suc i) no_trees = no_trees
trees_behind (suc i) (tree t ts) = trees_behind i ts

-- a node takes its children from the trees that stand behind it
abbrev pub with_node : Line → Trees → Trees
with_node l after =
    tree (option_map_or (λ name. element name l.attributes (first_trees l.children after)) l.name (words l.text))
    (trees_behind l.children after)

abbrev pub trees_of_lines : List Line → Trees
trees_of_lines [] = no_trees
trees_of_lines (l ∷ rest) = with_node l (trees_of_lines rest)

abbrev pub tree_of_lines : List Line → Tree
tree_of_lines ls = unwrap_or (nth_child 0 (trees_of_lines ls)) (words [])

-- it is the table of the tree that it stands for, and that is a page
pub record IsTable (ls : List Line) : Type 0 where
  pub lines : ls ≡ lines (tree_of_lines ls)
  pub page : IsPage (tree_of_lines ls)
