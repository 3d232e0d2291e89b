-- What the links between visits say.
use Rattle.std.specs.Prelude.{◌≡◌, ℕ, ◌+◌, ◌-◌, ◌<◌, ◌≤◌, ◌==◌, List, length, filter, Option, None, unwrap_or, slice_get, slice_index_or}
use Rattle.std.specs.Option.{option_or}
use Rattle.std.specs.List.{range_with_len}
use Rattle.visit_tree.specs.Tree.{opener_at}

-- below which one a visit stands: its opener's place, or the number of visits where none opened it
abbrev pub slot_at : List (Option ℕ) → ℕ → ℕ
slot_at parents place = unwrap_or (opener_at parents place) (length parents)

-- those below that one which stand there or behind it
unfoldable pub siblings_from : List (Option ℕ) → ℕ → ℕ → List ℕ
siblings_from parents slot place =
    filter (λ p. slot_at parents p == slot) (range_with_len place (length parents - place))

-- the first below each, of those that stand there or behind it
pub record AreFirsts (parents : List (Option ℕ)) (place : ℕ) (firsts : List (Option ℕ)) : Type 0 where
  pub count : length firsts ≡ length parents + 1
  pub each : (slot : ℕ) → slot ≤ length parents
      → slice_index_or firsts slot None ≡ slice_get (siblings_from parents slot place) 0

-- of those that stand there or behind it, the next one below the same one
pub record AreNexts (parents : List (Option ℕ)) (place : ℕ) (nexts : List (Option ℕ)) : Type 0 where
  pub count : length nexts ≡ length parents
  pub each : (k : ℕ) → place ≤ k → k < length parents
      → slice_index_or nexts k None ≡ slice_get (siblings_from parents (slot_at parents k) (k + 1)) 0

-- the next one, and where there is none, what follows those that its opener opened
pub record AreFollowers (parents nexts followers : List (Option ℕ)) : Type 0 where
  pub count : length followers ≡ length nexts
  pub each : (k : ℕ) → k < length parents → slice_index_or followers k None
      ≡ option_or (slice_index_or nexts k None) (slice_index_or followers (slot_at parents k) None)

-- the first below each, and what follows each behind those below it
pub record IsLinked (parents firsts followers : List (Option ℕ)) : Type 0 where
  pub firsts_are : AreFirsts parents 0 firsts
  pub nexts : List (Option ℕ)
  pub nexts_are : AreNexts parents 0 nexts
  pub followers_are : AreFollowers parents nexts followers
