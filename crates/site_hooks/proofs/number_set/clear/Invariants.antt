use Rattle.std.proofs.Common.{◌≡◌, ◌<◌, ℕ, length, get_or}
use Rattle.site_hooks.proofs.number_set.clear.Given as goal

abbrev pub invariant-loop-i : goal.invariant-loop-i
invariant-loop-i l = record {
  len : length l.set ≡ length l.fn.set;
  zeros : (j : ℕ) → j < l.i → get_or l.set j 0 ≡ 0;
}
