use Rattle.std.proofs.Common.{get_or-set_same, get_or-set_other, arith}
use Rattle.site_hooks.proofs.SetLaws.{added_word, past_word}
use Rattle.site_hooks.proofs.number_set.Word.add_common.Goals as goal

pub returns-then-self-into-clause-adds : goal.returns-then-self-into-clause-adds
returns-then-self-into-clause-adds c = added_word c.args.self.now c.args.others.now c.args.into.now _
    (get_or-set_same c.args.into.now c.args.self.now.index _ 0 (omega (arith, c.if-self-into.true))) (λ j other. get_or-set_other c.args.into.now c.args.self.now.index j _ 0 other)

pub returns-else-self-into-clause-adds : goal.returns-else-self-into-clause-adds
returns-else-self-into-clause-adds c = past_word c.args.self.now c.args.others.now c.args.into.now (omega (arith, c.if-self-into.false, c.requires))
