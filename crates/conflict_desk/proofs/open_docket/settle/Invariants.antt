use Rattle.std.proofs.Common.{◌≡◌, ◌<◌, ◌≤◌, ◌-◌, ℕ, Bool, true, Some, slice_get, length}
use Rattle.conflict_desk.specs.Docket.{is_conflict}
use Rattle.conflict_desk.specs.declared.docket.Case.{Case}
use Rattle.conflict_desk.specs.inside.Links.{Follows}
use Rattle.conflict_desk.specs.inside.Settling.{Tell}
use Rattle.conflict_desk.proofs.open_docket.settle.Given as goal

abbrev pub decreases-loop-place : goal.decreases-loop-place
decreases-loop-place l = length l.cases - l.place

abbrev pub invariant-loop-place : goal.invariant-loop-place
invariant-loop-place l = record {
  from : l.from ≤ l.place;
  within : l.place ≤ length l.cases;
  tell : (said : ℕ → Bool) → Follows l.from l.links said → Tell said l.from l.fn.gone → Tell said l.place l.gone;
  passed : (said : ℕ → Bool) → Follows l.from l.links said → Tell said l.from l.fn.gone → (k : ℕ) (case : Case) → l.from ≤ k → k < l.place → slice_get l.cases k ≡ Some case → is_conflict case.outcome ≡ true → said k ≡ true;
}
