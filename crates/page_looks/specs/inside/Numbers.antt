-- Things by their numbers: each is kept once, in the order in which it came.
use Rattle.std.specs.Prelude.{◌≡◌, ◌≢◌, ℕ, List, [], ◌∷◌, ◌++◌, length, map, slice_get, Some}
use Rattle.std.specs.Prelude.{◌⊎◌}

-- no two places have the same
abbrev pub AreApart : {X : Type 0} → List X → Type 0
AreApart {X} xs = (i j : ℕ) (x : X) → slice_get xs i ≡ Some x → slice_get xs j ≡ Some x → i ≡ j

abbrev pub IsAbsent : {X : Type 0} → List X → X → Type 0
IsAbsent xs x = (i : ℕ) → slice_get xs i ≢ Some x

-- one more was asked for: it is there, or was put behind the others
pub record IsPutIn {X : Type 0} (old new : List X) (x : X) (n : ℕ) : Type 0 where
  pub at : slice_get new n ≡ Some x
  pub grown : (new ≡ old) ⊎ ((new ≡ old ++ x ∷ []) × (n ≡ length old) × IsAbsent old x)

-- numbers, and what they stand for
abbrev pub StandFor : {X : Type 0} → List X → List ℕ → List X → Type 0
StandFor all numbers xs = map (slice_get all) numbers ≡ map Some xs
