use Rattle.std.proofs.Common.{◌≡◌, ◌⊎◌, ◌%◌, ℕ, false}
use Rattle.std.specs.Int.{bit_at}
use Rattle.site_hooks.specs.Findings.{found_differ, differ_by}
use Rattle.site_hooks.specs.Sets.{IsOfBits}
use Rattle.site_hooks.proofs.changes.word_differs.Given as goal

abbrev pub invariant-loop-left : goal.invariant-loop-left
invariant-loop-left l = record {
  same : found_differ l.old l.same.0 l.new l.same.1 ≡ false;
  each : (k : ℕ) → IsOfBits l.index l.bits k → (bit_at l.left (k % 64) ≡ 1) ⊎ (differ_by l.old l.before l.new l.after k ≡ false);
}

abbrev pub decreases-loop-left : goal.decreases-loop-left
decreases-loop-left l = l.left
