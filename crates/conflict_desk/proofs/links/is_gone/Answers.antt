use Rattle.std.proofs.Common.{◌∙◌, arith}
use Rattle.conflict_desk.proofs.Ways.{step_leads}
use Rattle.conflict_desk.proofs.links.is_gone.Goals as goal

pub loop-at-smaller : goal.loop-at-smaller
loop-at-smaller c =
    (step_leads c.args.links.now c.requires.back c.loop-at.at c.in-Some.above c.args.next _ c.loop-at.invariant.within c.loop-at-test.true c.in-Some.ensures.up).0

pub loop-at-preserved : goal.loop-at-preserved
loop-at-preserved c =
    let leads = step_leads c.args.links.now c.requires.back c.loop-at.at c.in-Some.above c.args.next _ c.loop-at.invariant.within c.loop-at-test.true c.in-Some.ensures.up in
    record {
      within = omega (arith, leads.0, c.loop-at.invariant.within);
      same = λ said follows. c.loop-at.invariant.same said follows ∙ leads.1 said follows;
    }
