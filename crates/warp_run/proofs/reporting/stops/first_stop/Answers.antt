use Rattle.std.proofs.Common.{arith}
use Rattle.warp_run.proofs.FirstStopLaws.{block_plain, stop_here, no_stop}
use Rattle.warp_run.proofs.reporting.stops.first_stop.Goals as goal

pub returns-then-run-lt-BLOCK : goal.returns-then-run-lt-BLOCK
returns-then-run-lt-BLOCK c =
    stop_here c.args.bytes.now c.loop-from.from c.plain_run-run.result (omega arith) c.plain_run-run.ensures c.loop-from.invariant (omega arith)

pub loop-from-preserved : goal.loop-from-preserved
loop-from-preserved c =
    block_plain c.args.bytes.now c.loop-from.from c.plain_run-run.result (omega arith) c.plain_run-run.ensures c.loop-from.invariant (omega arith)

pub returns-then-run-lt-BLOCK-2 : goal.returns-then-run-lt-BLOCK-2
returns-then-run-lt-BLOCK-2 c =
    stop_here c.args.bytes.now c.in-Some.last c.plain_run-run-2.result (omega arith) c.plain_run-run-2.ensures (λ k below. c.loop-from.invariant k (omega arith)) (omega arith)

pub returns : goal.returns
returns c =
    no_stop c.args.bytes.now (λ k below.
    block_plain c.args.bytes.now c.in-Some.last c.plain_run-run-2.result (omega arith) c.plain_run-run-2.ensures (λ j under. c.loop-from.invariant j (omega arith)) (omega arith) k
    (omega arith))
