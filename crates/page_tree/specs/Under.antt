-- The nodes under a node, in document order, by their places.
use Rattle.std.specs.Prelude.{◌↔◌, IsTrue, IsSome, ℕ, List, [], ◌∷◌, ◌++◌, ◌+◌, Bool, ◌&&◌, nat_eq, nat_lt, length}
use Rattle.std.specs.Option.{option_map_or}
use Rattle.std.specs.List.{starts_with, Contains}
use Rattle.page_tree.specs.Tree.{Tree, element, words, Trees, no_trees, tree}
use Rattle.page_tree.specs.Look.{children_of, node_at}

-- A place is under another where that one is on the way to it; none is under itself.
abbrev pub is_under : List ℕ → List ℕ → Bool
is_under above place = nat_lt (length above) (length place) && starts_with nat_eq place above

-- exactly the places of the nodes under that one
abbrev pub AreUnder : List ℕ → Tree → List (List ℕ) → Type 0
AreUnder above t found = (q : List ℕ) → Contains found q ↔ (IsTrue (is_under above q) × IsSome (node_at q t))

abbrev mutual
  -- a node that stands there, and those under it
  pub places_of : List ℕ → Tree → List (List ℕ)
  places_of at (element name attributes children) = at ∷ places_from at 0 children
  places_of at (words text) = at ∷ []

  -- the children of a node that stands there, from the i-th on, each with those under it
  pub places_from : List ℕ → ℕ → Trees → List (List ℕ)
  places_from at i no_trees = []
  places_from at i (tree t ts) = places_of (at ++ i ∷ []) t ++ places_from at (i + 1) ts

-- those under the node there, in document order; none where no node is
abbrev pub places_under : List ℕ → Tree → List (List ℕ)
places_under place t = option_map_or (λ n. places_from place 0 (children_of n)) (node_at place t) []
