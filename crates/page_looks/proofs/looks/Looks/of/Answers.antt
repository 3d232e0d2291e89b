use Rattle.std.proofs.Common.{[]}
use Rattle.page_looks.specs.inside.Numbering.{KnowsAll}
use Rattle.page_looks.proofs.KeyLaws.{knows_none}
use Rattle.page_looks.proofs.LooksLaws.{looks_kept, sends_kept}
use Rattle.page_looks.proofs.looks.Looks.of.Goals as goal

pub ranked_page-requires : goal.ranked_page-requires
ranked_page-requires c =
    let none : KnowsAll c.new-below.result c.new-shapes.result [] =
    rw (c.new-below.ensures.texts, c.new-below.ensures.keys, c.new-shapes.ensures.texts, c.new-shapes.ensures.keys) knows_none in
    ([], none)

pub numbered_sends-requires-clause-ranked : goal.numbered_sends-requires-clause-ranked
numbered_sends-requires-clause-ranked c =
    let none : KnowsAll c.new-below.result c.new-shapes.result [] =
    rw (c.new-below.ensures.texts, c.new-below.ensures.keys, c.new-shapes.ensures.texts, c.new-shapes.ensures.keys) knows_none in
    let w = c.in_ok-ranked.ensures [] none in
    (w.more, w.ranked)

pub numbered_sends-requires-clause-knows : goal.numbered_sends-requires-clause-knows
numbered_sends-requires-clause-knows c =
    let none : KnowsAll c.new-below.result c.new-sent_shapes.result [] =
    rw (c.new-below.ensures.texts, c.new-below.ensures.keys, c.new-sent_shapes.ensures.texts, c.new-sent_shapes.ensures.keys) knows_none in
    ([], none)

pub invariant_of-result : goal.invariant_of-result
invariant_of-result c = rw (c.in_ok-looks_kept.ensures, c.in_ok-sends_kept.ensures) (
  looks_kept c.new-below.result c.new-shapes.result c.ranked_page.new.own c.args.page.now c.in_ok-ranked.ranked c.new-below.ensures.texts
      c.new-below.ensures.keys c.new-shapes.ensures.texts c.new-shapes.ensures.keys c.in_ok-ranked.ensures,
  sends_kept c.as_slice-fresh.result.now c.new-below.result c.new-sent_shapes.result c.numbered_sends.new.own c.args.page.now c.in_ok-ranked.ranked c.in_ok-sent.sent
      c.new-below.ensures.texts c.new-below.ensures.keys c.new-sent_shapes.ensures.texts c.new-sent_shapes.ensures.keys c.in_ok-sent.ensures,
)
