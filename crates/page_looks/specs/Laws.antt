-- What is proved of the same element, for any two pages (here any two trees).
use Rattle.std.specs.Prelude.{◌≡◌, ℕ, List, ◌++◌, Some}
use Rattle.page_tree.specs.Tree.{Tree}
use Rattle.page_tree.specs.Look.{node_at}
use Rattle.page_looks.specs.Outline.{look, seen_place}
use Rattle.page_looks.specs.Sending.{sends}
use Rattle.page_looks.specs.SameElement.{IsAnchor, IsSame}

-- of an anchor and a lower one on the old page, what is sent by all below the first is sent by all below the second
abbrev pub SendsBelow : List (List ℕ) → Tree → Tree → List ℕ → List ℕ → List ℕ → List ℕ → Type 0
SendsBelow fresh old new at there next beyond = IsAnchor old new at there → IsAnchor old new next beyond
    → (mid : List ℕ) → next ≡ at ++ mid → node_at at (sends fresh old) ≡ node_at there (sends fresh new)
    → node_at next (sends fresh old) ≡ node_at beyond (sends fresh new)

-- the nodes at two places look alike
abbrev pub LookAlike : Tree → Tree → List ℕ → List ℕ → Type 0
LookAlike old new p q = (was : Tree) × (now : Tree) × (node_at p old ≡ Some was) × (node_at q new ≡ Some now)
    × (look was ≡ look now)

-- the nodes at two places send the same, with all that is seen below them
abbrev pub SendAlike : List (List ℕ) → Tree → Tree → List ℕ → List ℕ → Type 0
SendAlike fresh old new p q = (was now : Tree) → node_at p old ≡ Some was → node_at q new ≡ Some now
    → sends fresh was ≡ sends fresh now

-- what is seen below the one has its counterpart below the other, in the same way
abbrev pub HasCounterparts : Tree → Tree → (p q : List ℕ) → Type 0
HasCounterparts old new p q = (sp sq : List ℕ) → seen_place p old ≡ Some sp → seen_place q new ≡ Some sq
    → (r way : List ℕ) → seen_place r old ≡ Some (sp ++ way)
    → (o : List ℕ) × (seen_place o new ≡ Some (sq ++ way)) × IsSame old new r o
