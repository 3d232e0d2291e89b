use Rattle.std.proofs.Common.{arith}
use Rattle.text_difference.proofs.Alike.{at_an_end}
use Rattle.text_difference.proofs.edges.common_front.Goals as goal

pub returns-clause-common : goal.returns-clause-common
returns-clause-common c =
    omega (arith, at_an_end c.args.old.now c.args.new.now c.loop-place.place (omega arith) c.loop-place.invariant)
