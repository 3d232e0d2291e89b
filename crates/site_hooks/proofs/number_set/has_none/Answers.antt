use Rattle.std.proofs.Common.{arith}
use Rattle.site_hooks.proofs.SetLaws.{none_has}
use Rattle.site_hooks.proofs.number_set.has_none.Goals as goal

pub returns : goal.returns
returns c = λ is. none_has c.args.set.now (λ j less. c.loop-i.invariant j (omega arith))
