-- Which page a JSON value (RFC 8259) stands for: this project's own format.
use Rattle.std.specs.Prelude.{◌≡◌, ℕ, zero, suc, List, [], ◌∷◌, Option, Some, unwrap_or, option_map, option_and_then, codes}
use Rattle.std.specs.Option.{option_map_or}
use Rattle.serde_json.specs.Data.{Data, string, object, Items, no_items, item, Members, no_members, member}
use Rattle.serde_json.specs.Find.{get, as_str, as_array, as_object}
use Rattle.page_tree.specs.Tree.{Attribute, Tree, element, words, Trees, no_trees, tree}
use Rattle.page_tree.specs.Limits.{IsPage}

-- ---- the members of an element

-- the names and texts of an object whose values are all texts
abbrev pub texts_of : Members → Option (List Attribute)
texts_of no_members = Some []
texts_of (member name d ms) =
    option_and_then (λ text. option_map (λ rest. (name, text) ∷ rest) (texts_of ms)) (as_str d)

-- the member `n`, a text
abbrev pub name_in : Data → Option (List ℕ)
name_in d = option_and_then as_str (get (codes "n") d)

-- the member `a`, an object of texts; no attributes where it is absent
abbrev pub attributes_in : Data → Option (List Attribute)
attributes_in d = option_map_or (λ given. option_and_then texts_of (as_object given)) (get (codes "a") d) (Some [])

-- the member `c`, an array; no children where it is absent
abbrev pub children_in : Data → Option Items
children_in d = option_map_or as_array (get (codes "c") d) (Some no_items)

-- ---- what a value stands for

abbrev mutual
  -- a string stands for a text, and an object with these members for an element
  pub StandsFor : Data → Tree → Type 0
  StandsFor d (words text) = d ≡ string text
  StandsFor d (element name attributes children) =
      (ms : Members) × (d ≡ object ms) × (name_in d ≡ Some name) × (attributes_in d ≡ Some attributes)
      × ((ds : Items) × (children_in d ≡ Some ds) × AllStandFor ds children)

  pub AllStandFor : Items → Trees → Type 0
  AllStandFor no_items no_trees = Unit {0}
  AllStandFor (item d ds) (tree t ts) = StandsFor d t × AllStandFor ds ts
  AllStandFor _ _ = ⊥

-- the value stands for the tree, and the tree is a page
pub record IsPageOf (d : Data) (t : Tree) : Type 0 where
  pub stands : StandsFor d t
  pub page : IsPage t

-- ---- the same as a function

abbrev pub trees_in : (Data → Tree) → Items → Trees
trees_in one no_items = no_trees
trees_in one (item d ds) = tree (one d) (trees_in one ds)

-- the tree, where the value stands for one that has at most so many levels of elements
unfoldable pub tree_in : ℕ → Data → Tree
tree_in zero d = words (unwrap_or (as_str d) [])
tree_in (suc levels) d = option_map_or words (as_str d)
    (element (unwrap_or (name_in d) []) (unwrap_or (attributes_in d) [])
    (option_map_or (trees_in (tree_in levels)) (children_in d) no_trees))
