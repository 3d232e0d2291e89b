use Rattle.form_urlencoded.specs.Form.{byte_serialize}
use Rattle.form_urlencoded.specs.Serialize.{serialized_text}
use Rattle.warp_run.specs.declared.reporting.buffer.ReportBuffer.{ReportBuffer}
use Rattle.warp_run.specs.Buffer.{AddsText}
use Rattle.warp_run.proofs.reporting.buffer.ReportBuffer.add_pieces.Given as goal

-- what adds the rest from here adds all from the start
abbrev pub invariant-loop-piece : goal.invariant-loop-piece
invariant-loop-piece g l =
    (w : g.row.W.Denot) (b : ReportBuffer) → AddsText g.W.Sink.puts g.W.Write.contents l.writer l.self w b (serialized_text l.piece-iterator)
    → AddsText g.W.Sink.puts g.W.Write.contents l.initial.writer l.initial.self w b (byte_serialize l.word)
