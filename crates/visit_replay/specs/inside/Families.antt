-- What the code keeps of the visits before one, to find what its parent leads to now.
use Rattle.std.specs.Prelude.{ℕ, ◌≡◌, ◌<◌, ◌≤◌, ◌==◌, ◌&&◌, not, nat_lt, if◌then◌else◌, List, length, Bool, Option, Some, None, option_map, option_and_then, slice_get, IfSome}
use Rattle.client_log.specs.declared.visit.Visit.{Visit}
use Rattle.visit_replay.specs.Following.{Replayed, last_numbered, parent_among, is_elsewhere, outcome_behind}
use Rattle.visit_replay.specs.inside.Moves.{IsFresh, IsRight}
use Rattle.visit_replay.specs.declared.moves.Asked.{Asked}
use Rattle.visit_replay.specs.declared.outcome.Outcome.{Outcome}

-- the visit there with its outcome
abbrev pub pair_at : List Visit → List Outcome → ℕ → Option Replayed
pair_at visits outcomes j =
    option_and_then (λ visit. option_map (λ outcome. (visit, outcome)) (slice_get outcomes j)) (slice_get visits j)

-- so many, of which nothing was looked for yet
pub record AreFresh (count : ℕ) (asked : List Asked) : Type 0 where
  pub many : length asked ≡ count
  pub fresh : (j : ℕ) (one : Asked) → slice_get asked j ≡ Some one → IsFresh one

-- What was found of the requests of the first k visits is so; of the others nothing was looked for yet.
pub record AreKnown (same : Option (List (List ℕ))) (visits : List Visit) (outcomes : List Outcome) (k : ℕ)
    (asked : List Asked) : Type 0 where
  pub right : (j : ℕ) (visit : Visit) (outcome : Outcome) (one : Asked) → j < k → slice_get visits j ≡ Some visit
      → slice_get outcomes j ≡ Some outcome → slice_get asked j ≡ Some one → IsRight same visit outcome one
  pub fresh : (j : ℕ) (one : Asked) → k ≤ j → slice_get asked j ≡ Some one → IsFresh one

-- the place of a visit's parent, if a request there opened it
abbrev pub parent_place : (ℕ → Option ℕ) → Visit → Option ℕ
parent_place places visit =
    if nat_lt visit.parent visit.number && not (visit.from == 0) then places visit.parent else None

-- The first visits with their outcomes are these; the map has the place of the last one with each number.
pub record Stands (visits : List Visit) (outcomes : List Outcome) (places : ℕ → Option ℕ)
    (before : List Replayed) : Type 0 where
  pub pairs : (j : ℕ) → j < length before → slice_get before j ≡ pair_at visits outcomes j
  pub places_are : (number : ℕ) → option_and_then (slice_get before) (places number) ≡ last_numbered number before
  pub within : (number : ℕ) → IfSome (places number) (λ j. j < length before)

-- whether the parent of the visit there leads elsewhere now
abbrev pub TellsElsewhere : Option (List (List ℕ)) → List Visit → List Outcome → (ℕ → Option ℕ) → ℕ → Bool → Type 0
TellsElsewhere same visits outcomes places k answer =
    (before : List Replayed) (visit : Visit) → Stands visits outcomes places before → slice_get visits k ≡ Some visit
    → answer ≡ is_elsewhere same visit (parent_among before visit)

-- the visit there has the outcome now that it has behind those before it
abbrev pub IsBehind : Option (List (List ℕ)) → List Visit → (ℕ → Option ℕ) → ℕ → List Outcome → List Outcome → Type 0
IsBehind same visits places k outcomes outcomes' =
    (before : List Replayed) (visit : Visit) (mine : Outcome) → Stands visits outcomes places before
    → slice_get visits k ≡ Some visit → slice_get outcomes k ≡ Some mine
    → slice_get outcomes' k ≡ Some (outcome_behind same before visit mine)
