use Rattle.std.proofs.Common.{decimal, Some, arith}
use Rattle.collect_http.specs.Telling.{member_of}
use Rattle.collect_http.proofs.Members.{all_put}
use Rattle.collect_http.proofs.telling.no_counts.Goals as goal

pub returns : goal.returns
returns c = all_put (member_of (λ _. Some (decimal 0))) c.args.visits.now c.loop-visit.visit-index c.loop-visit.counts.items c.loop-visit.invariant (omega arith)
