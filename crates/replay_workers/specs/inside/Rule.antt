-- The rule of the claims: what holds between any two steps of any threads.
use Rattle.std.specs.Prelude.{◌≡◌, ℕ, ◌<◌, ◌≤◌, ◌+◌, true, false, List, [], ◌∷◌, ◌++◌, length, All, slice_index_or}
use Rattle.std.specs.List.{count_by, sum_by}
use mathlib.Core.Option.{some}
use lib.ListN.{get_elem?}
use Rattle.atomic_table.specs.Table.{State}
use Rattle.replay_workers.specs.declared.view.Terms.{Terms}
use Rattle.replay_workers.specs.declared.view.SeatView.{SeatView}
use Rattle.replay_workers.specs.Draws.{has_end, EndsOnce, times, once_below}

-- ---- of one view

-- how many lists it has
abbrev pub lists : SeatView → ℕ
lists v = length v.rows

-- the first list is the seat's own
abbrev pub own_list : SeatView → List ℕ
own_list v = slice_index_or v.rows 0 []

-- how often it drew that number
abbrev pub draws_of : ℕ → SeatView → ℕ
draws_of x v = sum_by (times x) v.rows

-- how many of its lists have a number at or past the count
abbrev pub ended_lists : ℕ → SeatView → ℕ
ended_lists count v = count_by (has_end count) v.rows

-- ---- of all views

-- what a view says is so, where so many seats were made; the pass of the first seat is the first
pub record SaysSo (count made pass : ℕ) (v : SeatView) : Type 0 where
  pub leads : v.leads ≡ true → (pass ≡ 0) × (v.made ≡ made)
  pub ends : All (EndsOnce count) v.rows

pub record IsInTurn (terms : Terms) (s : State (Unit {0}) SeatView) : Type 0 where
  pub word : ℕ
  pub made : ℕ
  pub words : s.words ≡ word ∷ []
  -- each of the seats that were made has one list
  pub few : made ≤ terms.workers
  pub seats : sum_by lists s.views ≡ made
  -- the numbers below the word were drawn, each once, and no others
  pub claimed : (x : ℕ) → sum_by (draws_of x) s.views ≡ once_below word x
  pub within : word ≤ terms.count + sum_by (ended_lists terms.count) s.views
  pub passes : (pass : ℕ) (v : SeatView) → get_elem? s.views pass ≡ some v → SaysSo terms.count made pass v

-- ---- the steps

-- the first of so many seats, before any draw
abbrev pub first_of : ℕ → SeatView
first_of made = record { leads = true; made = made; rows = [] ∷ [] }

-- another seat with these lists: one that is empty, or none once the first took them over
abbrev pub seat_with : List (List ℕ) → SeatView
seat_with rows = record { leads = false; made = 0; rows = rows }

abbrev pub with_number : SeatView → ℕ → SeatView
with_number v x = record v { rows = (own_list v ++ x ∷ []) ∷ [] }

-- the number that it drew is above those before
abbrev pub DrewNumber : SeatView → ℕ → SeatView → Type 0
DrewNumber v x w = (w ≡ with_number v x) × All (λ y. y < x) (own_list v)
