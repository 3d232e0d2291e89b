use Rattle.std.proofs.Common.{◌≡◌, ◌<◌, ◌/◌, ℕ, false}
use Rattle.site_hooks.specs.Findings.{found_differ, differ_by}
use Rattle.site_hooks.proofs.changes.differ.Given as goal

abbrev pub invariant-loop-index : goal.invariant-loop-index
invariant-loop-index l = record {
  same : found_differ l.old l.same.0 l.new l.same.1 ≡ false;
  each : (k : ℕ) → k / 64 < l.index → differ_by l.old l.before l.new l.after k ≡ false;
}
