-- The nearest anchor around an element, by ranks.
use Rattle.std.specs.Prelude.{◌≡◌, ℕ, ◌≤◌, ◌==◌, Bool, false, List, ◌++◌, length, Option, Some}
use Rattle.page_tree.specs.Tree.{Tree}
use Rattle.page_tree.specs.Number.{place_numbered}
use Rattle.page_tree.proofs.Numbers.{place_number}
use Rattle.page_looks.specs.Outline.{look, seen_place}
use Rattle.page_looks.specs.SameElement.{IsAnchor}
use Rattle.page_looks.specs.declared.finding.Nearest.{Nearest}

-- an anchor around the node of the old page with that number, and every other one stands above it
pub record IsNearest (old new : Tree) (number : ℕ) (nearest : Nearest) : Type 0 where
  pub place : List ℕ
  pub beyond : List ℕ
  pub way : List ℕ
  pub anchor : IsAnchor old new place beyond
  pub from : seen_place (place_numbered number old) old ≡ Some (place ++ way)
  pub here : nearest.at ≡ place_number place (look old)
  pub over : nearest.there ≡ place_number beyond (look new)
  pub begin : nearest.own ≡ place_number (place ++ way) (look old)
  pub lowest : (x y rest : List ℕ) → IsAnchor old new x y → x ++ rest ≡ place ++ way → length x ≤ length place

-- both are there, and they are equal
abbrev pub is_one_number : Option ℕ → Option ℕ → Bool
is_one_number (Some n) (Some m) = n == m
is_one_number n m = false
