use Rattle.std.proofs.Common.{◌≡◌, ◌<◌, ◌≤◌, ◌+◌, List, length, true, All, IfOk}
use Rattle.std.specs.Vec.{vec_capacity}
use Rattle.visit_replay.specs.declared.outcome.Outcome.{Outcome}
use Rattle.replay_workers.specs.Draws.{Pool, IsSeatOf, is_spent, fresh_seat}
use Rattle.replay_workers.specs.Work.{IsShare}
use Rattle.replay_workers.specs.inside.Shares.{IsPlaced}
use Rattle.replay_workers.proofs.pool.place_all.Given as goal

abbrev pub decreases-loop-share : goal.decreases-loop-share
decreases-loop-share l = length l.shares.items

abbrev pub invariant-loop-share : goal.invariant-loop-share
invariant-loop-share l = record {
  size : length l.all ≡ length l.fn.all;
  count : length l.shares.items + length l.seats.items ≡ length l.fn.shares.items;
  room : length l.fn.shares.items ≤ vec_capacity l.seats;
  within : All (λ share. IfOk share.done (λ done. All (λ one. one.number < length l.all) done.items)) l.shares.items;
  stands : (own : List Outcome) (claims : Pool) → (length own ≡ length l.fn.all) × (claims.count ≡ length own) → All (IsShare own claims (fresh_seat claims)) l.fn.shares.items
      → All (IsShare own claims (fresh_seat claims)) l.shares.items × All (IsSeatOf claims) l.seats.items × All (λ seat. is_spent seat ≡ true) l.seats.items × IsPlaced own l.seats.items l.all;
}
