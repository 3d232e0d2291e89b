use Rattle.warp_run.specs.Report.{client_text}
use Rattle.warp_run.proofs.BufferLaws.{adds_as, adds_nothing, ◌>>◌}
use Rattle.warp_run.proofs.ReportLaws.{text_here, texts_end}
use Rattle.warp_run.proofs.reporting.add_clients.Goals as goal

pub loop-client-preserved : goal.loop-client-preserved
loop-client-preserved g c w b put =
    c.loop-client.invariant w b
    (adds_as (c.add_client.ensures >> put)
    (text_here (client_text c.args.desk.now) c.args.clients.now c.loop-client.client-index c.client-item.result c.loop-client-test.true c.client-item.is))

pub returns : goal.returns
returns g c =
    c.loop-client.invariant c.loop-client.writer c.loop-client.buffer
    (adds_as (adds_nothing g.W.Sink.puts g.W.Write.contents c.loop-client.writer c.loop-client.buffer)
    (texts_end (client_text c.args.desk.now) c.args.clients.now c.loop-client.client-index c.loop-client-test.false))
