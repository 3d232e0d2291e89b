-- Texts that are kept in one, by where each ends; the next one begins there.
use Rattle.std.specs.Prelude.{◌≡◌, ℕ, zero, suc, ◌≤◌, List, [], ◌∷◌, length, get_or, slice_range}
use Rattle.std.specs.Str.{IsCharBoundary}

-- those from that byte on
abbrev pub texts_cut : ℕ → List ℕ → List ℕ → List (List ℕ)
texts_cut start joined [] = []
texts_cut start joined (end ∷ ends) = slice_range joined start end ∷ texts_cut end joined ends

pub record IsCut (joined : List ℕ) (start end : ℕ) : Type 0 where
  pub order : start ≤ end
  pub starts : IsCharBoundary joined start
  pub ends : IsCharBoundary joined end

-- the last one ends at the end
abbrev pub AreCuts : ℕ → List ℕ → List ℕ → Type 0
AreCuts start joined [] = start ≡ length joined
AreCuts start joined (end ∷ ends) = IsCut joined start end × AreCuts end joined ends

-- where the text of that number begins
abbrev pub start_in : ℕ → List ℕ → ℕ → ℕ
start_in start ends zero = start
start_in start ends (suc n) = get_or ends n 0
