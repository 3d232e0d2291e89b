use Rattle.std.proofs.Common.{sym, ◌∙◌, arith}
use Rattle.text_difference.specs.Difference.{is_end_edge}
use Rattle.text_difference.proofs.Cuts.{some_behind, end_at_end}
use Rattle.text_difference.proofs.edges.last_end_edge.Goals as goal

pub overflow_sub-count : goal.overflow_sub-count
overflow_sub-count c =
    some_behind (is_end_edge c.args.old.now c.args.new.now) c.loop-count.count (end_at_end c.args.old.now c.args.new.now)
    (sym c.is_end_edge.ensures ∙ c.loop-count-test.true)

pub loop-count-smaller : goal.loop-count-smaller
loop-count-smaller c =
    let some = some_behind (is_end_edge c.args.old.now c.args.new.now) c.loop-count.count (end_at_end c.args.old.now c.args.new.now)
    (sym c.is_end_edge.ensures ∙ c.loop-count-test.true) in
    omega (arith, some)
