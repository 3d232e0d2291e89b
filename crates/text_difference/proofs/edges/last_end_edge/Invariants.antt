use Rattle.std.proofs.Common.{◌≡◌, ℕ, ◌<◌, ◌≤◌, false}
use Rattle.text_difference.specs.Difference.{is_end_edge}
use Rattle.text_difference.proofs.edges.last_end_edge.Given as goal

abbrev pub invariant-loop-count : goal.invariant-loop-count
invariant-loop-count l =
    (l.count ≤ l.fn.most) × ((more : ℕ) → l.count < more → more ≤ l.fn.most → is_end_edge l.old l.new more ≡ false)

abbrev pub decreases-loop-count : goal.decreases-loop-count
decreases-loop-count l = l.count
