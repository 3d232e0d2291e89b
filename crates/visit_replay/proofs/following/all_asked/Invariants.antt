use Rattle.std.proofs.Common.{ℕ, ◌<◌, ◌≤◌, length}
use Rattle.std.specs.Prelude.{IfSome}
use Rattle.std.specs.BTreeMap.{get}
use Rattle.std.specs.Ordering.{nat_cmp}
use Rattle.std.specs.Vec.{vec_capacity}
use Rattle.visit_replay.specs.inside.Families.{AreFresh}
use Rattle.visit_replay.proofs.following.all_asked.Given as goal

abbrev pub invariant-loop-j : goal.invariant-loop-j
invariant-loop-j l = record {
  fresh : AreFresh l.j l.all.items;
  few : l.j ≤ length l.visits;
  room : length l.visits ≤ vec_capacity l.all;
  within : (number : ℕ) → IfSome (get nat_cmp l.earlier number) (λ i. i < l.j);
}
