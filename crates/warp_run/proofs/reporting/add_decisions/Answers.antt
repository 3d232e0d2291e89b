use Rattle.warp_run.specs.Report.{decision_line}
use Rattle.warp_run.proofs.BufferLaws.{adds_as, adds_nothing, ◌>>◌}
use Rattle.warp_run.proofs.ReportLaws.{text_here, texts_end}
use Rattle.warp_run.proofs.reporting.add_decisions.Goals as goal

pub loop-put-preserved : goal.loop-put-preserved
loop-put-preserved g c w b put =
    c.loop-put.invariant w b
    (adds_as (c.add_decision.ensures >> put)
    (text_here decision_line c.args.decided.now c.loop-put.put-index c.put-item.result c.loop-put-test.true c.put-item.is))

pub returns : goal.returns
returns g c =
    c.loop-put.invariant c.loop-put.writer c.loop-put.buffer
    (adds_as (adds_nothing g.W.Sink.puts g.W.Write.contents c.loop-put.writer c.loop-put.buffer) (texts_end decision_line c.args.decided.now c.loop-put.put-index c.loop-put-test.false))
