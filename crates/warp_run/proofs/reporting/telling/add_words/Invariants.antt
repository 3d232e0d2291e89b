use Rattle.std.proofs.Common.{length}
use Rattle.std.specs.List.{flat_map}
use Rattle.form_urlencoded.specs.Form.{byte_serialize}
use Rattle.warp_run.specs.declared.reporting.buffer.ReportBuffer.{ReportBuffer}
use Rattle.warp_run.specs.Buffer.{AddsText}
use Rattle.warp_run.proofs.reporting.telling.add_words.Given as goal

-- what adds the rest from here adds all from the start
abbrev pub invariant-loop-word : goal.invariant-loop-word
invariant-loop-word g l =
    (w : g.row.W.Denot) (b : ReportBuffer) → AddsText g.W.Sink.puts g.W.Write.contents l.writer l.buffer w b (byte_serialize (flat_map (λ w. w) l.words))
    → AddsText g.W.Sink.puts g.W.Write.contents l.initial.writer l.initial.buffer w b (byte_serialize (flat_map (λ w. w) l.initial.words))

abbrev pub decreases-loop-word : goal.decreases-loop-word
decreases-loop-word g l = length l.words
