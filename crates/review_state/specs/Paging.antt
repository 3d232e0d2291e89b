-- A list is shown by pages: this project's own rule.
use Rattle.std.specs.Prelude.{ℕ, List, length, filter, take, drop, Bool, false, slice_index_or}
use Rattle.std.specs.List.{range_with_len}

-- the places that are marked, in their order
abbrev pub marked : List Bool → List ℕ
marked marks = filter (λ place. slice_index_or marks place false) (range_with_len 0 (length marks))

-- of a list at most so many, from that place on
abbrev pub shown_of : ℕ → ℕ → List ℕ → List ℕ
shown_of from most places = take most (drop from places)
