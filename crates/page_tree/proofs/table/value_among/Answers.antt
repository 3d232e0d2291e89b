use Rattle.std.proofs.Common.{arith, ap, sym, ◌∙◌, Some}
use Rattle.page_tree.proofs.LineBisection.{found, on_right, on_left}
use Rattle.page_tree.proofs.table.value_among.Goals as goal

pub returns-in-Equal : goal.returns-in-Equal
returns-in-Equal c =
    let l = c.loop-count in
    ap Some c.get-in-Equal.ensures
    ∙ sym (found c.args.texts.now c.args.name.now l.at l.count c.loop-count-test.true l.invariant.ascending
    (rw (← c.get.ensures, ← c.cmp.ensures) c.in-Equal.is))
    ∙ l.invariant.same

pub loop-count-preserved-in-Less : goal.loop-count-preserved-in-Less
loop-count-preserved-in-Less c =
    let l = c.loop-count in
    let (up, same) = on_right c.args.texts.now c.args.name.now l.at l.count c.loop-count-test.true l.invariant.ascending
    (rw (← c.get.ensures, ← c.cmp.ensures) c.in-Less.is) in
    record {
      within = omega (arith, c.loop-count.invariant.within, c.loop-count-test.true);
      ascending = up;
      same = same ∙ l.invariant.same;
    }

pub loop-count-preserved : goal.loop-count-preserved
loop-count-preserved c =
    let l = c.loop-count in
    let (up, same) = on_left c.args.texts.now c.args.name.now l.at l.count c.loop-count-test.true l.invariant.ascending
    (rw (← c.get.ensures, ← c.cmp.ensures) c.in-Greater.is) in
    record {
      within = omega (arith, c.loop-count.invariant.within);
      ascending = up;
      same = same ∙ l.invariant.same;
    }
