-- Visits in another order than their own.
use Rattle.std.specs.Prelude.{ℕ, ◌≡◌, ◌<◌, ◌≤◌, List, All, map, length, slice_get, Some}
use Rattle.client_log.specs.declared.visit.Visit.{Visit}
use Rattle.visit_replay.specs.declared.outcome.Outcome.{Outcome}
use Rattle.replay_workers.specs.Draws.{times}
use Rattle.replay_workers.specs.declared.in_order.Numbered.{Numbered}
use Rattle.replay_workers.specs.declared.share.Done.{Done}

-- each is the visit of its number, and no number is left out
pub record AreAll (visits : List Visit) (all : List Numbered) : Type 0 where
  pub count : length all ≡ length visits
  pub each : All (λ one. slice_get visits one.number ≡ Some one.visit.now) all
  pub there : (x : ℕ) → x < length visits → 1 ≤ times x (map (λ one. one.number) all)

abbrev pub as_done : Numbered × Outcome → Done
as_done p = record { number = p.0.number; outcome = p.1 }
