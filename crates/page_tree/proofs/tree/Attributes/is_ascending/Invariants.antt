use Rattle.std.proofs.Common.{◌≡◌, ℕ, Bool, List, ◌∷◌, Option, Some, None, option_map, drop}
use Rattle.page_tree.specs.Limits.{names_of, is_ascending}
use Rattle.page_tree.proofs.tree.Attributes.is_ascending.Given as goal

-- the rest ascends, and from the name before it
abbrev pub ascends_from : Option (List ℕ) → List (List ℕ) → Bool
ascends_from None names = is_ascending names
ascends_from (Some name) names = is_ascending (name ∷ names)

abbrev pub invariant-loop-name : goal.invariant-loop-name
invariant-loop-name l = ascends_from (option_map (λ name. name.now) l.before) (names_of (drop l.name-index l.pairs)) ≡ is_ascending (names_of l.pairs)
