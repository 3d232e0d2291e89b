use Rattle.std.proofs.Common.{◌<◌, ℕ, List, length, All}
use Rattle.visit_replay.specs.declared.outcome.Outcome.{Outcome}
use Rattle.replay_workers.specs.Work.{AreOf}
use Rattle.replay_workers.specs.inside.Shares.{StandsOrComes}
use Rattle.replay_workers.proofs.pool.place.Given as goal

abbrev pub decreases-loop-one : goal.decreases-loop-one
decreases-loop-one l = length l.done.items

abbrev pub invariant-loop-one : goal.invariant-loop-one
invariant-loop-one l = record {
  within : All (λ one. one.number < length l.all) l.done.items;
  stands : (own : List Outcome) (x : ℕ) → AreOf own l.fn.done.items → StandsOrComes own l.fn.all l.fn.done.items x
      → AreOf own l.done.items × StandsOrComes own l.all l.done.items x;
}
