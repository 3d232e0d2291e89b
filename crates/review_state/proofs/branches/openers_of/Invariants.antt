use Rattle.review_state.proofs.Steps.{AreOpenersTo}
use Rattle.review_state.proofs.branches.openers_of.Given as goal

abbrev pub invariant-loop-place : goal.invariant-loop-place
invariant-loop-place l = AreOpenersTo l.docket.cases l.place l.openers.items
