use Rattle.warp_run.proofs.BufferLaws.{finished}
use Rattle.warp_run.proofs.reporting.buffer.ReportBuffer.finish.Goals as goal

pub returns-in-Ok : goal.returns-in-Ok
returns-in-Ok g c first text has =
    rw c.in-Ok.is at
    (finished g.W.Sink.puts g.W.Write.contents first c.args.writer.now c.write_text.new.writer c.args.self text c.as_slice.result.now c.write_text.result c.if-self.false
    c.as_slice.ensures.value c.write_text.ensures has)

pub returns : goal.returns
returns g c first text has =
    rw c.in-Err.is at
    (finished g.W.Sink.puts g.W.Write.contents first c.args.writer.now c.write_text.new.writer c.args.self text c.as_slice.result.now c.write_text.result c.if-self.false
    c.as_slice.ensures.value c.write_text.ensures has)
