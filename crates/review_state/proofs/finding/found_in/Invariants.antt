use Rattle.std.proofs.Common.{map}
use Rattle.review_state.proofs.Steps.{AreFoundTo}
use Rattle.review_state.proofs.finding.found_in.Given as goal

abbrev pub invariant-loop-place : goal.invariant-loop-place
invariant-loop-place l = AreFoundTo l.part (map (λ text. text.now) l.texts) l.place l.marks.items
