-- What nodes send, by numbers.
use Rattle.std.specs.Prelude.{◌≡◌, ◌≢◌, ℕ, Bool, true, false, List, [], ◌++◌, map, slice_get, Option, Some, None}
use Rattle.std.specs.List.{range_with_len}
use Rattle.page_tree.specs.Tree.{Attribute, Tree, element, no_trees}
use Rattle.page_tree.specs.Limits.{nodes}
use Rattle.page_tree.specs.Number.{place_numbered}
use Rattle.page_looks.specs.Counterpart.{sent_at}
use Rattle.page_looks.specs.Sending.{sends}
use Rattle.page_looks.specs.inside.Numbers.{StandFor}
use Rattle.page_looks.specs.inside.Ranks.{subtrees}
use Rattle.page_looks.specs.inside.Numbering.{KnowsAll}
use Rattle.page_looks.specs.declared.shapes.Shapes.{Shapes}
use Rattle.page_looks.specs.declared.sent_numbers.SentNumbers.{SentNumbers}

-- ---- what a node sends by itself

-- as a tree
abbrev pub own_leaf : List Attribute → Tree
own_leaf told = element [] told no_trees

abbrev pub leaf_at : List (List ℕ) → Tree → ℕ → Tree
leaf_at fresh t n = own_leaf (sent_at fresh t (place_numbered n t))

-- one was numbered
pub record HasLeaf (below new : Shapes) (known : List Tree) (n : ℕ) (leaf : Tree) : Type 0 where
  pub more : List Tree
  pub knows : KnowsAll below new (known ++ more)
  pub at : slice_get (known ++ more) n ≡ Some leaf

abbrev pub NumbersLeaf : Shapes → Shapes → Shapes → ℕ → Tree → Type 0
NumbersLeaf below old new n leaf = (known : List Tree) → KnowsAll below old known → HasLeaf below new known n leaf

-- those of the first nodes were
pub record HasLeaves (below new : Shapes) (known : List Tree) (numbers : List ℕ) (leaves : List Tree) : Type 0 where
  pub more : List Tree
  pub knows : KnowsAll below new (known ++ more)
  pub stand : StandFor (known ++ more) numbers leaves

abbrev pub NumbersLeaves : Shapes → Shapes → Shapes → List ℕ → List (List ℕ) → Tree → ℕ → Type 0
NumbersLeaves below old new numbers fresh t many = (known : List Tree) → KnowsAll below old known
    → HasLeaves below new known numbers (map (leaf_at fresh t) (range_with_len 0 many))

-- ---- with all below it

-- it is there, and true
abbrev pub is_true : Option Bool → Bool
is_true (Some b) = b
is_true None = false

-- of each look, whether all that look so send the same
pub record AreEven (looks sends : List ℕ) (even : List Bool) : Type 0 where
  pub alike : (n : ℕ) → slice_get even n ≡ Some true → (i j : ℕ) → slice_get looks i ≡ Some n
      → slice_get looks j ≡ Some n → slice_get sends i ≡ slice_get sends j
  pub apart : (n : ℕ) → slice_get even n ≡ Some false → (i : ℕ) × ((j : ℕ) × (slice_get looks i ≡ Some n)
      × (slice_get looks j ≡ Some n) × (slice_get sends i ≢ slice_get sends j))
  pub all : (i n : ℕ) → slice_get looks i ≡ Some n → (b : Bool) × (slice_get even n ≡ Some b)

-- the numbers of what the nodes of a page send
pub record AreSent (fresh : List (List ℕ)) (t : Tree) (known : List Tree) (looks : List ℕ) (s : SentNumbers) : Type 0
  where
    pub all : StandFor known s.all.items (subtrees (sends fresh t))
    pub own : StandFor known s.own.items (map (leaf_at fresh t) (range_with_len 0 (nodes t)))
    pub nothing : slice_get known s.nothing ≡ Some (own_leaf [])
    pub even : AreEven looks s.all.items s.even.items
