use Rattle.page_looks.proofs.FindLaws.{IsOnWay}
use Rattle.page_looks.proofs.finding.nearest_anchor.Given as goal

abbrev pub invariant-loop-there : goal.invariant-loop-there
invariant-loop-there l = IsOnWay l.page l.new_page l.number l.at l.rank l.start

abbrev pub decreases-loop-there : goal.decreases-loop-there
decreases-loop-there l = l.at
