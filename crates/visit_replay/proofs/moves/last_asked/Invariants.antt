use Rattle.std.proofs.Common.{◌≡◌, ℕ, ◌≤◌, length, take}
use Rattle.std.specs.Prelude.{IsSome}
use Rattle.std.specs.BTreeMap.{get}
use Rattle.std.specs.Ordering.{nat_cmp}
use Rattle.visit_replay.specs.Moved.{event_numbered}
use Rattle.visit_replay.proofs.moves.last_asked.Given as goal

abbrev pub invariant-loop-count : goal.invariant-loop-count
invariant-loop-count l = record {
  within : l.count ≤ length l.events;
  all : (number : ℕ) → IsSome (get nat_cmp l.numbers number) → event_numbered l.events number ≡ event_numbered (take l.count l.events) number;
}

abbrev pub decreases-loop-count : goal.decreases-loop-count
decreases-loop-count l = l.count
