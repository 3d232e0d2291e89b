use Rattle.std.proofs.Common.{length}
use Rattle.warp_run.specs.declared.reporting.buffer.ReportBuffer.{ReportBuffer}
use Rattle.warp_run.specs.Buffer.{AddsText}
use Rattle.warp_run.specs.Report.{told_requests}
use Rattle.warp_run.proofs.reporting.add_requests.Given as goal

-- what adds the rest from here adds all from the start
abbrev pub invariant-loop-buffer : goal.invariant-loop-buffer
invariant-loop-buffer g l =
    (w : g.row.W.Denot) (b : ReportBuffer) → AddsText g.W.Sink.puts g.W.Write.contents l.writer l.buffer w b (told_requests l.room.former.1 l.room.requests.1)
    → AddsText g.W.Sink.puts g.W.Write.contents l.initial.writer l.initial.buffer w b (told_requests l.initial.room.former.1 l.initial.room.requests.1)

abbrev pub decreases-loop-buffer : goal.decreases-loop-buffer
decreases-loop-buffer g l = length l.room.requests.1
