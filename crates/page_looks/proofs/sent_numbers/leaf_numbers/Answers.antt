use Rattle.std.proofs.Common.{arith}
use Rattle.page_tree.specs.Limits.{nodes}
use Rattle.page_looks.proofs.SentLaws.{leaves_none, leaves_more, leaves_all}
use Rattle.page_looks.proofs.sent_numbers.leaf_numbers.Goals as goal

pub loop-number-init : goal.loop-number-init
loop-number-init c = record {
  leaves = rw (c.new-numbers.ensures.items) (leaves_none c.args.below.now c.args.own.now c.args.fresh.now c.args.page.now);
  in_forms = c.requires;
}

pub leaf_number-requires : goal.leaf_number-requires
leaf_number-requires c = c.loop-number.invariant.in_forms

pub loop-number-preserved : goal.loop-number-preserved
loop-number-preserved c = record {
  leaves = leaves_more c.args.below.now c.args.own.now c.loop-number.own c.leaf_number.new.own c.args.fresh.now c.args.page.now c.loop-number.numbers.items
      c.push.new.self.items c.loop-number.number c.in_ok-own_one.own_one c.loop-number.invariant.leaves c.in_ok-own_one.ensures.leaf c.in_ok-push.ensures.items;
  in_forms = c.in_ok-own_one.ensures.in_forms;
}

pub returns-clause-leaves : goal.returns-clause-leaves
returns-clause-leaves c =
    leaves_all c.args.below.now c.args.own.now c.loop-number.own c.args.fresh.now c.args.page.now c.loop-number.numbers.items c.loop-number.number
    (nodes c.args.page.now) c.loop-number.invariant.leaves (omega (arith, c.loop-number-test.false, c.node_count-number-end.ensures, c.loop-number.auto.number-end))

pub returns-clause-in_forms : goal.returns-clause-in_forms
returns-clause-in_forms c = c.loop-number.invariant.in_forms
