use Rattle.std.proofs.Common.{sym, ◌∙◌, arith}
use Rattle.text_difference.specs.Difference.{is_front_edge}
use Rattle.text_difference.proofs.Cuts.{some_behind, front_at_start}
use Rattle.text_difference.proofs.edges.last_front_edge.Goals as goal

pub overflow_sub-count : goal.overflow_sub-count
overflow_sub-count c =
    some_behind (is_front_edge c.args.old.now c.args.new.now) c.loop-count.count (front_at_start c.args.old.now c.args.new.now)
    (sym c.is_front_edge.ensures ∙ c.loop-count-test.true)

pub loop-count-smaller : goal.loop-count-smaller
loop-count-smaller c =
    let some = some_behind (is_front_edge c.args.old.now c.args.new.now) c.loop-count.count (front_at_start c.args.old.now c.args.new.now)
    (sym c.is_front_edge.ensures ∙ c.loop-count-test.true) in
    omega (arith, some)
