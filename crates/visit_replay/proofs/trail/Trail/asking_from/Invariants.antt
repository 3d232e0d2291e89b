use Rattle.std.proofs.Common.{◌≡◌, ℕ, ◌<◌, ◌≤◌, None}
use Rattle.visit_replay.specs.inside.Trails.{asked_at, asked_from}
use Rattle.visit_replay.proofs.trail.Trail.asking_from.Given as goal

abbrev pub invariant-loop-place : goal.invariant-loop-place
invariant-loop-place l = record {
  rest : asked_from l.self l.from ≡ asked_from l.self l.place;
  none : (k : ℕ) → l.from ≤ k → k < l.place → asked_at l.self k ≡ None;
}
