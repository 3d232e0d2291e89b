-- The node at a place, and what stands there.
use Rattle.std.specs.Prelude.{ℕ, zero, suc, List, [], ◌∷◌, ◌++◌, if◌then◌else◌, Option, Some, None, option_and_then}
use Rattle.std.specs.Option.{option_map_or}
use Rattle.std.specs.Str.{bytes_eq}
use Rattle.page_tree.specs.Tree.{Attribute, Tree, element, words, Trees, no_trees, tree}

abbrev pub children_of : Tree → Trees
children_of (element name attributes children) = children
children_of (words text) = no_trees

abbrev pub nth_child : ℕ → Trees → Option Tree
nth_child i no_trees = None
nth_child zero (tree t ts) = Some t
nth_child (suc i) (tree t ts) = nth_child i ts

-- A place is the list of child positions on the way from the root, texts counted too, from 0 on.
abbrev pub node_at : List ℕ → Tree → Option Tree
node_at [] t = Some t
node_at (i ∷ rest) t = option_and_then (node_at rest) (nth_child i (children_of t))

-- ---- names and children

abbrev pub name_of : Tree → Option (List ℕ)
name_of (element name attributes children) = Some name
name_of (words text) = None

abbrev pub name_at : List ℕ → Tree → Option (List ℕ)
name_at place t = option_and_then name_of (node_at place t)

abbrev pub count : Trees → ℕ
count no_trees = 0
count (tree t ts) = suc (count ts)

-- how many children stand there, texts too; 0 where no node is
abbrev pub child_count_at : List ℕ → Tree → ℕ
child_count_at place t = option_map_or (λ n. count (children_of n)) (node_at place t) 0

-- ---- attributes

abbrev pub attributes_of : Tree → List Attribute
attributes_of (element name attributes children) = attributes
attributes_of (words text) = []

abbrev pub value_of : List ℕ → List Attribute → Option (List ℕ)
value_of name [] = None
value_of name (a ∷ rest) = if bytes_eq a.0 name then Some a.1 else value_of name rest

abbrev pub attribute_at : List ℕ → List ℕ → Tree → Option (List ℕ)
attribute_at place name t = option_and_then (λ n. value_of name (attributes_of n)) (node_at place t)

-- ---- texts

-- what a text says; nothing for an element
abbrev pub words_of : Tree → List ℕ
words_of (element name attributes children) = []
words_of (words text) = text

abbrev mutual
  -- the texts at and under a node, joined in document order
  pub text_of : Tree → List ℕ
  text_of (element name attributes children) = text_of_all children
  text_of (words text) = text

  pub text_of_all : Trees → List ℕ
  text_of_all no_trees = []
  text_of_all (tree t ts) = text_of t ++ text_of_all ts

abbrev pub text_at : List ℕ → Tree → List ℕ
text_at place t = option_map_or text_of (node_at place t) []
