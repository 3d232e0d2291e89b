use Rattle.std.proofs.Common.{◌+◌, ◌*◌, ap, ◌∙◌, arith}
use Rattle.xpath_child.proofs.Index.{digit_next}
use Rattle.xpath_child.proofs.step.number.Goals as goal

pub overflow_mul-n : goal.overflow_mul-n
overflow_mul-n c = let next = digit_next c.args.digits.now c.loop-c.c-index c.loop-c.n c.requires (omega arith) c.loop-c.invariant in omega (arith, next.2)

pub overflow_add-n : goal.overflow_add-n
overflow_add-n c = let next = digit_next c.args.digits.now c.loop-c.c-index c.loop-c.n c.requires (omega arith) c.loop-c.invariant in omega (arith, next.2, c.from.ensures)

pub loop-c-preserved : goal.loop-c-preserved
loop-c-preserved c =
    let next = digit_next c.args.digits.now c.loop-c.c-index c.loop-c.n c.requires (omega arith) c.loop-c.invariant in
    ap (λ d. c.loop-c.n * 10 + d) c.from.ensures ∙ next.1
