-- How many visits of a client stand so or so: this project's own rule.
use Rattle.std.specs.Prelude.{ℕ, Bool, true, false, count_by}
use Rattle.conflict_desk.specs.Book.{Book, standing_in}
use Rattle.conflict_desk.specs.declared.decided.Standing.{Standing}
use Rattle.conflict_desk.specs.declared.decided.Standing.TheVariants.{Untouched, Done, Waiting, Kept, Cancelled}
use Rattle.review_state.specs.declared.counts.VisitCounts.{VisitCounts}

abbrev pub same_standing : Standing → Standing → Bool
same_standing Untouched Untouched = true
same_standing Done Done = true
same_standing Waiting Waiting = true
same_standing Kept Kept = true
same_standing Cancelled Cancelled = true
same_standing one other = false

-- the visits of a client's book that stand so
abbrev pub how_many : Book → Standing → ℕ
how_many book standing = count_by (λ case. same_standing (standing_in book case) standing) book.cases

abbrev pub count_in : VisitCounts → Standing → ℕ
count_in counts Untouched = counts.untouched
count_in counts Done = counts.done
count_in counts Waiting = counts.waiting
count_in counts Kept = counts.kept
count_in counts Cancelled = counts.cancelled
