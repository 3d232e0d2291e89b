use Rattle.std.proofs.Common.{◌≡◌, count_by, take}
use Rattle.conflict_desk.specs.Book.{standing_in}
use Rattle.conflict_desk.specs.declared.decided.Standing.{Standing}
use Rattle.review_state.specs.Counts.{count_in, same_standing}
use Rattle.review_state.proofs.counts.counts_of.Given as goal

abbrev pub invariant-loop-place : goal.invariant-loop-place
invariant-loop-place l = (standing : Standing) → count_in l.counts standing
    ≡ count_by (λ case. same_standing (standing_in l.docket case) standing) (take l.place l.docket.cases)
