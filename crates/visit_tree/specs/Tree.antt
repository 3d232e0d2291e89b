-- A visit with those that it opened below it: this project's own rule. `parents` has for each visit, by its place, that
-- of the one that opened it, if any did.
use Rattle.std.specs.Prelude.{◌≡◌, ℕ, zero, suc, ◌+◌, ◌<◌, nat_eq, nat_lt, List, [], ◌∷◌, length, filter, if◌then◌else◌, Option, Some, None, option_and_then, slice_index_or}
use Rattle.std.specs.Option.{option_eq, option_map_or}
use Rattle.std.specs.List.{flat_map, range_with_len}

-- A visit stands behind the one that opened it: a place that isn't before its own counts for none.
abbrev pub opener_at : List (Option ℕ) → ℕ → Option ℕ
opener_at parents place =
    option_and_then (λ parent. if nat_lt parent place then Some parent else None) (slice_index_or parents place None)

-- ---- the order in which they are shown

-- the places of those that this one opened, or of those that none opened, in their order
abbrev pub opened_by : List (Option ℕ) → Option ℕ → List ℕ
opened_by parents opener =
    filter (λ place. option_eq nat_eq (opener_at parents place) opener) (range_with_len 0 (length parents))

-- a visit, and behind it each that it opened with those that this opened, and so on, so many levels deep
unfoldable pub family : List (Option ℕ) → ℕ → ℕ → List ℕ
family parents zero place = []
family parents (suc levels) place = place ∷ flat_map (family parents levels) (opened_by parents (Some place))

-- The families of those that none opened. There are no more levels than visits.
abbrev pub tree_order : List (Option ℕ) → List ℕ
tree_order parents = flat_map (family parents (length parents)) (opened_by parents None)

-- ---- how deep each stands

-- none above a visit that none opened, else one more than above the one that opened it
abbrev pub IsLevel : List (Option ℕ) → List ℕ → ℕ → ℕ → Type 0
IsLevel parents levels place level =
    level ≡ option_map_or (λ opener. slice_index_or levels opener 0 + 1) (opener_at parents place) 0

pub record AreVisitLevels (parents : List (Option ℕ)) (levels : List ℕ) : Type 0 where
  pub count : length levels ≡ length parents
  pub each : (place : ℕ) → place < length parents → IsLevel parents levels place (slice_index_or levels place 0)
