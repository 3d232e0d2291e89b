use Rattle.std.proofs.Common.{◌++◌, sym, ap}
use Rattle.warp_run.proofs.BufferLaws.{adds_written}
use Rattle.warp_run.proofs.reporting.buffer.ReportBuffer.write_over.Goals as goal

pub returns : goal.returns
returns g c =
    adds_written g.W.Sink.puts g.W.Write.contents c.args.writer.now c.write_text.new.writer c.args.self.now record { held = c.args.self.now.held; failed = c.is_err-self.result } c.args.bytes.now c.args.bytes.now c.write_text.result
    c.if-self.false c.requires c.is_err-self.ensures.value (sym (ap (λ t. t ++ c.args.bytes.now) c.requires)) c.write_text.ensures
