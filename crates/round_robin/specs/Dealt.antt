-- How items are dealt round.
use Rattle.std.specs.Prelude.{ℕ, zero, suc, ◌-◌, List, [], ◌∷◌, if◌then◌else◌, ◌==◌}

module _ {A : Type 0} where
  -- every so many-th of them, the first at that place
  abbrev pub every : ℕ → ℕ → List A → List A
  every step at [] = []
  every step zero (x ∷ xs) = x ∷ every step (step - 1) xs
  every step (suc at) (x ∷ xs) = every step at xs

  -- what went to that hand, and what goes to others
  abbrev pub given : ℕ → ℕ → A → List A
  given at hand x = if hand == at then x ∷ [] else []
