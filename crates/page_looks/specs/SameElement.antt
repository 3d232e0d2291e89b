-- Which element of a repaired page is the same as one of the recorded page: this project's own rule. Places here are
-- places of pages; looks and what is sent are compared at their places in the outlines of the pages.
use Rattle.std.specs.Prelude.{◌≡◌, ℕ, List, ◌++◌, Some}
use Rattle.page_tree.specs.Tree.{Tree}
use Rattle.page_tree.specs.Look.{node_at}
use Rattle.page_looks.specs.Outline.{look, seen_place}
use Rattle.page_looks.specs.Sending.{sends}

-- a node like this one stands there, and nowhere else in the tree
pub record StandsOnce (node t : Tree) (at : List ℕ) : Type 0 where
  pub there : node_at at t ≡ Some node
  pub alone : (other : List ℕ) → node_at other t ≡ Some node → other ≡ at

-- an anchor: a look that stands once on either page, there on the old one and there on the new one
pub record IsAnchor (old new : Tree) (at there : List ℕ) : Type 0 where
  pub looks : Tree
  pub before : StandsOnce looks (look old) at
  pub after : StandsOnce looks (look new) there

-- The same element: the places p of the old page and q of the new one stand in the same way under, or at, the two of an
-- anchor.
pub record IsSame (old new : Tree) (p q : List ℕ) : Type 0 where
  pub at : List ℕ
  pub there : List ℕ
  pub anchor : IsAnchor old new at there
  pub way : List ℕ
  pub from : seen_place p old ≡ Some (at ++ way)
  pub to : seen_place q new ≡ Some (there ++ way)

-- The same element, which still sends the same: so do the two of such an anchor, with all below them. (If those of any
-- anchor do, then those of the nearest one do.)
pub record IsSameSending (fresh : List (List ℕ)) (old new : Tree) (p q : List ℕ) : Type 0 where
  pub same : IsSame old new p q
  pub sending : node_at same.at (sends fresh old) ≡ node_at same.there (sends fresh new)
