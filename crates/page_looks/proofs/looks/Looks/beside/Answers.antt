use Rattle.std.specs.Arc.{arc_value}
use Rattle.std.proofs.Common.{◌++◌}
use Rattle.page_looks.proofs.LooksLaws.{known_first, both_beside}
use Rattle.page_looks.proofs.looks.Looks.beside.Goals as goal

pub ranked_page-requires : goal.ranked_page-requires
ranked_page-requires c =
    let ((known, knows, ranked), sent) = c.self.invariant in
    (known, known_first c.self.inside.shapes c.new-shapes.result known c.new-shapes.ensures.texts c.new-shapes.ensures.keys knows)

pub numbered_sends-requires-clause-ranked : goal.numbered_sends-requires-clause-ranked
numbered_sends-requires-clause-ranked c =
    let ((known, knows, ranked), sent) = c.self.invariant in
    let w = c.in_ok-old.ensures known
    (known_first c.self.inside.shapes c.new-shapes.result known c.new-shapes.ensures.texts c.new-shapes.ensures.keys knows) in
    (known ++ w.more, w.ranked)

pub numbered_sends-requires-clause-knows : goal.numbered_sends-requires-clause-knows
numbered_sends-requires-clause-knows c =
    let (looks, (kept, holds, stand)) = c.self.invariant in
    (kept, known_first c.self.inside.sent_shapes c.new-sent_shapes.result kept c.new-sent_shapes.ensures.texts c.new-sent_shapes.ensures.keys holds)

pub invariant_of-result : goal.invariant_of-result
invariant_of-result c =
    rw (c.in_ok-recorded.ensures, c.in_ok-new.ensures, c.in_ok-new_sent.ensures)
    (both_beside c.self.inside.fresh.now c.args.recorded.now c.self.inside.page.now c.self.inside.shapes c.new-shapes.result c.ranked_page.new.own c.new-sent_shapes.result
    c.in_ok-old.old (arc_value c.self.inside.ranked) c.in_ok-old_sent.old_sent (arc_value c.self.inside.sent) c.self.inside.sent_shapes c.numbered_sends.new.own
    c.self.invariant.0 c.self.invariant.1 c.new-shapes.ensures.texts c.new-shapes.ensures.keys c.new-sent_shapes.ensures.texts c.new-sent_shapes.ensures.keys
    c.in_ok-old.ensures c.in_ok-old_sent.ensures)
