-- What the code looks at besides: the parts of a node that no contract of a caller names.
use Rattle.std.specs.Prelude.{ℕ, List, [], Bool, Option}
use Rattle.std.specs.Option.{option_map_or}
use Rattle.page_tree.specs.Tree.{Attribute, Tree, Trees, no_trees}
use Rattle.page_tree.specs.Look.{node_at, attributes_of, children_of, words_of}
use Rattle.page_tree.specs.Control.{start_text}
use Rattle.page_tree.specs.Limits.{is_element}
use Rattle.page_tree.specs.Number.{is_named}

-- the attributes of the node there; none where no node is
abbrev pub attributes_at : List ℕ → Tree → List Attribute
attributes_at place t = option_map_or attributes_of (node_at place t) []

-- the children of the node there; none where no node is
abbrev pub children_at : List ℕ → Tree → Trees
children_at place t = option_map_or children_of (node_at place t) no_trees

-- what a Text control of that name starts with that stands there
abbrev pub named_start_text : List ℕ → List ℕ → Tree → List ℕ
named_start_text name place t = start_text name (attributes_at place t) (children_at place t)

-- the text there; empty for an element, or where no node is
abbrev pub words_at : List ℕ → Tree → List ℕ
words_at place t = option_map_or words_of (node_at place t) []

-- the elements, or those of that name
abbrev pub is_element_of : Option (List ℕ) → Tree → Bool
is_element_of name = option_map_or is_named name is_element
