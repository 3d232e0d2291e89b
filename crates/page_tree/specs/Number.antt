-- The nodes of a page by their numbers: from 0 on, in document order, texts too.
use Rattle.std.specs.Prelude.{◌≡◌, ℕ, zero, suc, ◌-◌, ◌<◌, List, [], ◌∷◌, ◌++◌, map, get_or, Bool, false, if◌then◌else◌, nat_lt, Option, Some, None}
use Rattle.std.specs.List.{range_with_len}
use Rattle.std.specs.Option.{option_map_or}
use Rattle.std.specs.Str.{bytes_eq}
use Rattle.page_tree.specs.Tree.{Tree, Trees, no_trees, tree}
use Rattle.page_tree.specs.Limits.{is_element, nodes}
use Rattle.page_tree.specs.Look.{children_of, nth_child, name_of, name_at, count, child_count_at, text_at}
use Rattle.page_tree.specs.Under.{places_of, places_under}

-- the place of the node with that number; past the last one, a place where no node is
abbrev pub place_numbered : ℕ → Tree → List ℕ
place_numbered n t = get_or (places_of [] t) n (count (children_of t) ∷ [])

-- the same, where a node has that number
abbrev pub place_of : ℕ → Tree → Option (List ℕ)
place_of n t = if nat_lt n (nodes t) then Some (place_numbered n t) else None

-- the texts at or under the node with that number, joined
abbrev pub text_numbered : ℕ → Tree → List ℕ
text_numbered n t = text_at (place_numbered n t) t

-- the nodes under that one are those numbered from the one number to below the other
abbrev pub AreNumbersUnder : Tree → ℕ → ℕ → ℕ → Type 0
AreNumbersUnder t n start end =
    places_under (place_numbered n t) t ≡ map (λ k. place_numbered k t) (range_with_len start (end - start))

-- the node at that place has that number
abbrev pub IsNumberOf : Tree → List ℕ → ℕ → Type 0
IsNumberOf t place n = (n < nodes t) × (place_numbered n t ≡ place)

-- the i-th child of a node, from 0 on, by the numbers of both
abbrev pub IsChild : Tree → ℕ → ℕ → ℕ → Type 0
IsChild t parent i child = place_numbered child t ≡ place_numbered parent t ++ i ∷ []

abbrev pub IsParent : Tree → ℕ → ℕ → Type 0
IsParent t child parent = (parent < child) × ((i : ℕ) × IsChild t parent i child)

-- the next sibling of a node, where it has one
abbrev pub IsNext : Tree → ℕ → ℕ → Type 0
IsNext t n next = (at : List ℕ) (i : ℕ) → place_numbered n t ≡ at ++ i ∷ [] → suc i < child_count_at at t
    → place_numbered next t ≡ at ++ suc i ∷ []

-- ---- siblings

abbrev pub first_trees : ℕ → Trees → Trees
first_trees zero ts = no_trees
first_trees (suc i) no_trees = no_trees
first_trees (suc i) (tree t ts) = tree t (first_trees i ts)

abbrev pub count_of : (Tree → Bool) → Trees → ℕ
count_of test no_trees = 0
count_of test (tree t ts) = if test t then suc (count_of test ts) else count_of test ts

-- those that stand before the node there; the root has none
abbrev pub siblings_before : List ℕ → Tree → Trees
siblings_before [] t = no_trees
siblings_before (i ∷ []) t = first_trees i (children_of t)
siblings_before (i ∷ j ∷ rest) t = option_map_or (siblings_before (j ∷ rest)) (nth_child i (children_of t)) no_trees

abbrev pub is_named : List ℕ → Tree → Bool
is_named name t = option_map_or (λ own. bytes_eq own name) (name_of t) false

-- how many elements stand before the element there, among its siblings; 0 for a text, or where no node is
abbrev pub elements_before_at : List ℕ → Tree → ℕ
elements_before_at place t = option_map_or (λ _. count_of is_element (siblings_before place t)) (name_at place t) 0

-- how many elements of its name stand before the element there, likewise
abbrev pub same_before_at : List ℕ → Tree → ℕ
same_before_at place t = option_map_or (λ name. count_of (is_named name) (siblings_before place t)) (name_at place t) 0
