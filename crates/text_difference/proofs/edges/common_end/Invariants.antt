use Rattle.text_difference.proofs.Alike.{IsFarBack}
use Rattle.text_difference.proofs.edges.common_end.Given as goal

abbrev pub invariant-loop-count : goal.invariant-loop-count
invariant-loop-count l = IsFarBack l.old l.new l.count
