use Rattle.std.proofs.Common.{length}
use Rattle.json.specs.Print.{escape}
use Rattle.warp_run.specs.declared.reporting.buffer.ReportBuffer.{ReportBuffer}
use Rattle.warp_run.specs.Buffer.{AddsText}
use Rattle.warp_run.proofs.reporting.quoting.add_escaped.Given as goal

-- what adds the rest from here adds all from the start
abbrev pub invariant-loop-at : goal.invariant-loop-at
invariant-loop-at g l = (w : g.row.W.Denot) (b : ReportBuffer) → AddsText g.W.Sink.puts g.W.Write.contents l.writer l.buffer w b (escape l.rest)
    → AddsText g.W.Sink.puts g.W.Write.contents l.initial.writer l.initial.buffer w b (escape l.initial.rest)

abbrev pub decreases-loop-at : goal.decreases-loop-at
decreases-loop-at g l = length l.rest
