use Rattle.std.proofs.Common.{arith}
use Rattle.page_looks.proofs.FormLaws.{in_forms_go_on, in_forms_end}
use Rattle.page_looks.proofs.in_forms.nodes_in_forms.Goals as goal

pub loop-number-preserved : goal.loop-number-preserved
loop-number-preserved c =
    in_forms_go_on c.args.page.now c.args.fresh.now c.args.below.now c.args.own.now c.loop-number.own c.node_in_forms.new.own c.loop-number.all.items
    c.push.new.self.items c.in_ok-one.one c.loop-number.number c.loop-number.invariant c.in_ok-one.ensures.one c.in_ok-one.ensures.grown c.in_ok-push.ensures.items

pub returns-clause-all : goal.returns-clause-all
returns-clause-all c =
    in_forms_end c.args.page.now c.args.fresh.now c.args.below.now c.args.own.now c.loop-number.own c.loop-number.all.items c.loop-number.number
    c.loop-number.invariant (omega (arith, c.loop-number-test.false, c.node_count-number-end.ensures, c.loop-number.auto.number-end))
