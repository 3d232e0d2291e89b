-- What contracts see of claims and of their seats: which numbers were drawn.
use Rattle.std.specs.Prelude.{◌≡◌, ℕ, ◌≤◌, ◌==◌, Bool, nat_le, nat_lt, if◌then◌else◌, List, [], ◌∷◌, ◌++◌, replicate, All}
use Rattle.std.specs.List.{list_any, count_by, sum_by}
use Rattle.atomic_table.specs.Seated.{TableId}

-- which claims they are, how many numbers there are to claim, and how many seats
pub record Pool : Type 0 where
  pub table_id : TableId
  pub count : ℕ
  pub workers : ℕ

-- of which claims a seat is, how many numbers these are for, and what it drew, in order
pub record Draws : Type 0 where
  pub table_id : TableId
  pub count : ℕ
  pub drawn : List ℕ

abbrev pub IsSeatOf : Pool → Draws → Type 0
IsSeatOf pool seat = (seat.table_id ≡ pool.table_id) × (seat.count ≡ pool.count)

-- a number at or past the count was drawn
abbrev pub has_end : ℕ → List ℕ → Bool
has_end count drawn = list_any (λ x. nat_le count x) drawn

abbrev pub is_spent : Draws → Bool
is_spent seat = has_end seat.count seat.drawn

-- where a number at or past the count stands, nothing follows: there is at most one, as the last
abbrev pub EndsOnce : ℕ → List ℕ → Type 0
EndsOnce count drawn = (before after : List ℕ) (x : ℕ) → drawn ≡ before ++ x ∷ after → count ≤ x → after ≡ []

-- one number more was drawn
abbrev pub with_draw : Draws → ℕ → Draws
with_draw seat x = record seat { drawn = seat.drawn ++ x ∷ [] }

-- ---- over all seats

-- how often the number stands there
abbrev pub times : ℕ → List ℕ → ℕ
times x drawn = count_by (λ y. y == x) drawn

-- 1 for those below the end, 0 for the rest
abbrev pub once_below : ℕ → ℕ → ℕ
once_below end x = if nat_lt x end then 1 else 0

-- over all lists of these seats together, the numbers below the end were drawn, each once, and no others
abbrev pub AreClaimed : ℕ → List Draws → Type 0
AreClaimed end seats = (x : ℕ) → sum_by (λ seat. times x seat.drawn) seats ≡ once_below end x

-- ---- at first

abbrev pub fresh_seat : Pool → Draws
fresh_seat pool = record { table_id = pool.table_id; count = pool.count; drawn = [] }

pub record AreOpenedClaims (count workers : ℕ) (pool : Pool) (seats : List Draws) : Type 0 where
  pub count_is : pool.count ≡ count
  pub workers_is : pool.workers ≡ workers
  pub seats_are : seats ≡ replicate workers (fresh_seat pool)
  pub fresh : All (λ seat. IsSeatOf pool seat × (seat.drawn ≡ [])) seats
