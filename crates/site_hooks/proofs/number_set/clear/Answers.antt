use Rattle.std.proofs.Common.{arith}
use Rattle.site_hooks.proofs.SetLaws.{none_has}
use Rattle.site_hooks.proofs.number_set.clear.Goals as goal

pub returns-clause-none : goal.returns-clause-none
returns-clause-none c = none_has c.loop-i.set (λ j less. c.loop-i.invariant.zeros j (omega arith))
