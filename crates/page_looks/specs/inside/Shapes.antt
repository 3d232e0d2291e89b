-- Trees by their numbers. A tree's key has the numbers of its texts and of its children, so equal trees have equal
-- keys, and of each tree one key is kept.
use Rattle.std.specs.Prelude.{◌≡◌, ℕ, suc, List, [], ◌∷◌, ◌++◌, length, slice_get, Some}
use Rattle.page_tree.specs.Tree.{Attribute, Tree, element, words, Trees, no_trees, tree}
use Rattle.page_looks.specs.inside.Numbers.{AreApart, StandFor}

-- names and values, behind one another
abbrev pub told_texts : List Attribute → List (List ℕ)
told_texts [] = []
told_texts (a ∷ rest) = a.0 ∷ a.1 ∷ told_texts rest

abbrev pub listed : Trees → List Tree
listed no_trees = []
listed (tree t ts) = t ∷ listed ts

-- 0 and its number for a text; how many attributes and 1, the numbers of its name and of theirs, and of its children
abbrev pub IsKey : List (List ℕ) → List Tree → Tree → List ℕ → Type 0
IsKey texts known (words text) key = (n : ℕ) × (key ≡ 0 ∷ n ∷ []) × (slice_get texts n ≡ Some text)
IsKey texts known (element name told children) key = (own parts : List ℕ) × (key ≡ suc (length told) ∷ own ++ parts)
    × StandFor texts own (name ∷ told_texts told) × StandFor known parts (listed children)

-- the trees that keys are those of
pub record Knows (texts keys : List (List ℕ)) (known : List Tree) : Type 0 where
  pub apart : AreApart texts
  pub many : length known ≡ length keys
  pub each : (i : ℕ) (t : Tree) → slice_get known i ≡ Some t
      → (key : List ℕ) × (slice_get keys i ≡ Some key) × IsKey texts known t key
  pub once : AreApart known
