-- What the shares of all workers leave.
use Rattle.std.specs.Prelude.{ℕ, ◌≡◌, ◌<◌, ◌≤◌, List, ◌∷◌, [], ◌++◌, true, All, length, slice_get, Some, ◌⊎◌}
use Rattle.std.specs.List.{sum_by}
use Rattle.visit_replay.specs.declared.outcome.Outcome.{Outcome}
use Rattle.replay_workers.specs.Draws.{Pool, Draws, IsSeatOf, is_spent, times, fresh_seat}
use Rattle.replay_workers.specs.Work.{done_numbers, AreOf, IsShare}
use Rattle.replay_workers.specs.declared.share.Done.{Done}
use Rattle.replay_workers.specs.declared.share.Share.{Share}

-- so many seats came back, all spent
pub record AreBack (pool : Pool) (count : ℕ) (seats : List Draws) : Type 0 where
  pub count_is : length seats ≡ count
  pub of : All (IsSeatOf pool) seats
  pub spent : All (λ seat. is_spent seat ≡ true) seats

-- each number below the count that one of these seats drew has its outcome
abbrev pub IsPlaced : List Outcome → List Draws → List Outcome → Type 0
IsPlaced own seats all =
    (x : ℕ) → x < length own → 1 ≤ sum_by (λ seat. times x seat.drawn) seats → slice_get all x ≡ slice_get own x

-- ---- while outcomes are put at their places

-- of all shares the seats came back, and the outcomes are at their places
abbrev pub PlacesAll : List Share → List Outcome → List Outcome → List Draws → Type 0
PlacesAll shares before after seats =
    (own : List Outcome) (claims : Pool) → (length own ≡ length before) × (claims.count ≡ length own)
    → All (IsShare own claims (fresh_seat claims)) shares
    → AreBack claims (length shares) seats × IsPlaced own seats after

-- the outcome at that place is the visit's own, or comes with these
abbrev pub StandsOrComes : List Outcome → List Outcome → List Done → ℕ → Type 0
StandsOrComes own all done x = (slice_get all x ≡ slice_get own x) ⊎ (1 ≤ times x (done_numbers done))

-- these outcomes are at their places, and the others where they were
abbrev pub PlacesThese : List Done → List Outcome → List Outcome → Type 0
PlacesThese done before after = (own : List Outcome) (x : ℕ) → AreOf own done
    → StandsOrComes own before done x → slice_get after x ≡ slice_get own x

-- behind the others stands the outcome of that number
abbrev pub HasNext : List Outcome → ℕ → List Done → List Done → Type 0
HasNext own number some more = (outcome : Outcome) × (slice_get own number ≡ Some outcome)
    × (more ≡ some ++ record { number = number; outcome = outcome } ∷ [])
