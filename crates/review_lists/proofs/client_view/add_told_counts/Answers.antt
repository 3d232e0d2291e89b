use Rattle.std.proofs.Common.{rules}
use Rattle.conflict_desk.specs.declared.decided.Standing.TheVariants.{Untouched, Done, Waiting, Kept, Cancelled}
use Rattle.review_lists.proofs.client_view.add_told_counts.Goals as goal

pub returns : goal.returns
returns c =
    let told = c.counts_of-counts.ensures in
    rw (← told Waiting, ← told Kept, ← told Cancelled, ← told Done, ← told Untouched) (search rules)
