use Rattle.std.proofs.Common.{arith}
use Rattle.text_difference.proofs.Alike.{one_further_back, no_further_back, at_an_end_back}
use Rattle.text_difference.proofs.edges.common_end.Goals as goal

pub returns-then-old-count-clause-common : goal.returns-then-old-count-clause-common
returns-then-old-count-clause-common c =
    no_further_back c.args.old.now c.args.new.now c.loop-count.count (omega arith) (omega arith) c.loop-count.invariant c.if-old-count.true

pub loop-count-preserved : goal.loop-count-preserved
loop-count-preserved c =
    one_further_back c.args.old.now c.args.new.now c.loop-count.count (omega arith) (omega arith) c.loop-count.invariant c.if-old-count.false

pub returns-clause-common : goal.returns-clause-common
returns-clause-common c =
    omega (arith, at_an_end_back c.args.old.now c.args.new.now c.loop-count.count (omega arith) c.loop-count.invariant)
