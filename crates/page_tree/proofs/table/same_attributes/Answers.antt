use Rattle.std.proofs.Common.{refl, arith}
use Rattle.page_tree.proofs.SameLines.{parts_same, all_same}
use Rattle.page_tree.proofs.table.same_attributes.Goals as goal

pub returns-then-not-same_text : goal.returns-then-not-same_text
returns-then-not-same_text c =
    let l = c.loop-count in
    (λ h. cc, λ same. c.if-not-same_text.ensures.1 (parts_same c.args.texts.now c.args.others.now l.at l.other_at l.count c.loop-count-test.true (l.invariant.same.1 same)).0)

pub returns-then-not-same_text-2 : goal.returns-then-not-same_text-2
returns-then-not-same_text-2 c =
    let l = c.loop-count in
    (λ h. cc, λ same. c.if-not-same_text-2.ensures.1 (parts_same c.args.texts.now c.args.others.now l.at l.other_at l.count c.loop-count-test.true (l.invariant.same.1 same)).1)

pub loop-count-preserved : goal.loop-count-preserved
loop-count-preserved c =
    let l = c.loop-count in
    record {
      within = omega (arith, c.loop-count.invariant.within, c.loop-count-test.true);
      other_within = omega (arith, c.loop-count.invariant.other_within, c.loop-count-test.true);
      same = (
        λ rest. l.invariant.same.0 (all_same c.args.texts.now c.args.others.now l.at l.other_at l.count c.loop-count-test.true
            (c.if-not-same_text.ensures.0 refl) (c.if-not-same_text-2.ensures.0 refl) rest),
        λ same. (parts_same c.args.texts.now c.args.others.now l.at l.other_at l.count c.loop-count-test.true (l.invariant.same.1 same)).2,
      );
    }
