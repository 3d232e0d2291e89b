-- What claims and seats keep beside what contracts see of them.
use Rattle.std.specs.Prelude.{◌≡◌, ℕ, ◌<◌, ◌^◌, Bool, List, [], ◌∷◌, ◌++◌, map}
use Rattle.atomic_table.specs.Seated.{TableId}
use Rattle.atomic_table.specs.declared.shared.Seat.{Seat}
use Rattle.replay_workers.specs.declared.view.Terms.{Terms}
use Rattle.replay_workers.specs.declared.view.SeatView.{SeatView}
use Rattle.visit_replay.specs.Limits.{AreWorkers}
use Rattle.replay_workers.specs.Draws.{Pool, Draws, has_end}
use Rattle.replay_workers.specs.inside.Rule.{own_list}

abbrev pub Pass : Type 0
Pass = Seat (Unit {0}) SeatView

-- what contracts see of claims, by what the table was told when it was made
abbrev pub pool_of : TableId → Terms → Pool
pool_of table_id terms = record { table_id = table_id; count = terms.count; workers = terms.workers }

-- the table has the one word, and nothing else
pub record IsClaims (table_id : TableId) (terms : Terms) : Type 0 where
  pub one : table_id.words ≡ 1
  pub none : table_id.slots ≡ 0
  pub small : terms.count < 2 ^ 63
  pub workers : AreWorkers terms.workers

-- the pass has one list, and nothing of the table is out with it
pub record IsSeat (pass : Pass) (count : ℕ) (spent : Bool) : Type 0 where
  pub whole : pass.me.1 ≡ []
  pub one : pass.me.0.rows ≡ own_list pass.me.0 ∷ []
  pub spent_is : spent ≡ has_end count (own_list pass.me.0)

-- a pass of the claims with the lists of all these seats but the rest, in order
pub record IsGathered (pool : Pool) (rest seats : List Draws) (pass : Pass) : Type 0 where
  pub of : pass.table_id ≡ pool.table_id
  pub whole : pass.me.1 ≡ []
  pub lists : map (λ seat. seat.drawn) rest ++ pass.me.0.rows ≡ map (λ seat. seat.drawn) seats
