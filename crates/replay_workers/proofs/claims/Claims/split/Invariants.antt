use Rattle.std.proofs.Common.{◌≡◌, ◌≤◌, ◌+◌, ◌-◌, [], length, replicate}
use Rattle.std.specs.Vec.{vec_capacity}
use Rattle.replay_workers.specs.Draws.{fresh_seat}
use Rattle.replay_workers.specs.inside.Rule.{first_of}
use Rattle.replay_workers.proofs.claims.Claims.split.Given as goal

abbrev pub invariant-loop : goal.invariant-loop
invariant-loop l =
    (l.first.table_id ≡ l.self.table_id) × (l.first.me ≡ (first_of l.counter, [])) × (l.seats.items ≡ replicate (l.counter - 1) (fresh_seat l.self))
    × (l.terms.workers ≤ vec_capacity l.seats) × (length l.seats.items + 1 ≡ l.counter) × (l.counter ≤ l.terms.workers)
