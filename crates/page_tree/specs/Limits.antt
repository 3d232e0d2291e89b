-- Which trees are pages: this project's own limits.
use Rattle.std.specs.Prelude.{ℕ, suc, max, ◌+◌, ◌≤◌, List, ◌∷◌, map, Bool, true, false, ◌&&◌, IsTrue}
use Rattle.std.specs.Ordering.{nat_cmp, is_lt}
use Rattle.std.specs.Cmp.Lexicographic.{slice_cmp}
use Rattle.page_tree.specs.Name.{is_name}
use Rattle.page_tree.specs.Tree.{Attribute, Tree, element, words, Trees, no_trees, tree}

-- Levels of elements. Each takes two of JSON's 127, for the element and for the list of its children, and a path has
-- a step for each: `IsPath` of xpath_child says it.
abbrev pub max_depth : ℕ
max_depth = 48

-- Elements and texts. The numbers that are kept of a node have 16 bits.
abbrev pub max_nodes : ℕ
max_nodes = 4096

abbrev pub names_of : List Attribute → List (List ℕ)
names_of attributes = map (λ a. a.0) attributes

-- each name is below the next one, in byte order
abbrev pub is_ascending : List (List ℕ) → Bool
is_ascending (name ∷ next ∷ rest) = is_lt (slice_cmp nat_cmp name next) && is_ascending (next ∷ rest)
is_ascending _ = true

abbrev pub have_ascending_names : List Attribute → Bool
have_ascending_names attributes = is_ascending (names_of attributes)

abbrev mutual
  -- elements on the longest way down
  pub depth : Tree → ℕ
  depth (element name attributes children) = suc (depth_of_all children)
  depth (words text) = 0

  pub depth_of_all : Trees → ℕ
  depth_of_all no_trees = 0
  depth_of_all (tree t ts) = max (depth t) (depth_of_all ts)

abbrev mutual
  -- elements and texts
  pub nodes : Tree → ℕ
  nodes (element name attributes children) = suc (nodes_of_all children)
  nodes (words text) = 1

  pub nodes_of_all : Trees → ℕ
  nodes_of_all no_trees = 0
  nodes_of_all (tree t ts) = nodes t + nodes_of_all ts

abbrev mutual
  -- each element has a name of an element, and attributes whose names ascend
  pub IsNamed : Tree → Type 0
  IsNamed (element name attributes children) =
      IsTrue (is_name name) × IsTrue (have_ascending_names attributes) × AreNamed children
  IsNamed (words text) = Unit {0}

  pub AreNamed : Trees → Type 0
  AreNamed no_trees = Unit {0}
  AreNamed (tree t ts) = IsNamed t × AreNamed ts

abbrev pub is_element : Tree → Bool
is_element (element name attributes children) = true
is_element (words text) = false

pub record IsPage (t : Tree) : Type 0 where
  pub element : IsTrue (is_element t)
  pub deep : depth t ≤ max_depth
  pub many : nodes t ≤ max_nodes
  pub named : IsNamed t
