use Rattle.std.proofs.Common.{[], sym, append-nil, ◌∙◌}
use Rattle.warp_run.proofs.BufferLaws.{adds_written}
use Rattle.warp_run.proofs.reporting.buffer.ReportBuffer.write_held.Goals as goal

pub returns-clause-added : goal.returns-clause-added
returns-clause-added g c =
    adds_written g.W.Sink.puts g.W.Write.contents c.args.writer.now c.write_text.new.writer c.args.self.now record { held = c.clear-2.new.self; failed = c.is_err-self.result } [] c.as_slice.result.now c.write_text.result
    c.if-self.false c.clear-2.ensures.items c.is_err-self.ensures.value (c.as_slice.ensures.value ∙ sym (append-nil c.args.self.now.held.items)) c.write_text.ensures
