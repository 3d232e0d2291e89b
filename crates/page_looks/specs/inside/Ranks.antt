-- The seen nodes of a page in document order: the rank of a node is how many stand before it.
use Rattle.std.specs.Prelude.{◌≡◌, ℕ, suc, ◌+◌, ◌≤◌, List, [], ◌∷◌, ◌++◌, slice_get, Some, if◌then◌else◌, codes}
use Rattle.std.specs.Str.{bytes_eq}
use Rattle.page_tree.specs.Tree.{Tree, element, words, Trees, no_trees, tree}
use Rattle.page_tree.specs.Limits.{nodes}
use Rattle.page_tree.specs.Number.{place_numbered}
use Rattle.page_tree.proofs.Numbers.{place_number}
use Rattle.page_looks.specs.Outline.{is_seen, look, seen_place}
use Rattle.page_looks.specs.declared.ranks.Ranked.{Ranked}
use Rattle.page_looks.specs.inside.Numbers.{StandFor}

abbrev mutual
  -- the numbers of the seen nodes at and under a node that has that number
  pub seen_from : ℕ → Tree → List ℕ
  seen_from n (element name attributes children) =
      n ∷ (if bytes_eq name (codes "textarea") then [] else seen_in (suc n) children)
  seen_from n (words text) = n ∷ []

  pub seen_in : ℕ → Trees → List ℕ
  seen_in n no_trees = []
  seen_in n (tree t ts) = if is_seen t then seen_from n t ++ seen_in (n + nodes t) ts else seen_in (n + nodes t) ts

abbrev mutual
  -- the nodes at and under a node, each with all below it
  pub subtrees : Tree → List Tree
  subtrees (element name attributes children) = element name attributes children ∷ subtrees_in children
  subtrees (words text) = words text ∷ []

  pub subtrees_in : Trees → List Tree
  subtrees_in no_trees = []
  subtrees_in (tree t ts) = subtrees t ++ subtrees_in ts

-- ---- where numbers stand in a list

-- it stands there first
abbrev pub IsFirstAt : List ℕ → ℕ → ℕ → Type 0
IsFirstAt numbers n k = (slice_get numbers k ≡ Some n) × ((j : ℕ) → slice_get numbers j ≡ Some n → k ≤ j)

-- one place, as its index and 1, of each number that stands there: none before, or behind it
pub record AreFirst (numbers places : List ℕ) : Type 0 where
  pub first : (n k : ℕ) → slice_get places n ≡ Some (suc k) → IsFirstAt numbers n k
  pub all : (j n : ℕ) → slice_get numbers j ≡ Some n → (k : ℕ) × (slice_get places n ≡ Some (suc k))

pub record AreLast (numbers places : List ℕ) : Type 0 where
  pub last : (n k : ℕ) → slice_get places n ≡ Some (suc k)
      → (slice_get numbers k ≡ Some n) × ((j : ℕ) → slice_get numbers j ≡ Some n → j ≤ k)
  pub all : (j n : ℕ) → slice_get numbers j ≡ Some n → (k : ℕ) × (slice_get places n ≡ Some (suc k))

-- it stands there alone
pub record StandsAlone (numbers : List ℕ) (n k : ℕ) : Type 0 where
  pub here : slice_get numbers k ≡ Some n
  pub alone : (j : ℕ) → slice_get numbers j ≡ Some n → j ≡ k

-- ---- what is kept of a page

-- the seen nodes of a tree, and the numbers of their looks among those that are known
pub record IsRanked (t : Tree) (known : List Tree) (r : Ranked) : Type 0 where
  pub nodes : r.nodes.items ≡ seen_from 0 t
  pub looks : StandFor known r.looks.items (subtrees (look t))
  pub ranks : AreLast r.nodes.items r.ranks.items
  pub first : AreFirst r.looks.items r.first.items
  pub last : AreLast r.looks.items r.last.items

-- the looks at two ranks are an anchor, by their numbers
abbrev pub AreAnchor : Ranked → Ranked → ℕ → ℕ → Type 0
AreAnchor old new at there =
    (n : ℕ) × StandsAlone old.looks.items n at × StandsAlone new.looks.items n there

-- the node with that number is seen, and has that rank
abbrev pub HasRank : Tree → ℕ → ℕ → Type 0
HasRank t number rank =
    (s : List ℕ) × (seen_place (place_numbered number t) t ≡ Some s) × (rank ≡ place_number s (look t))
