use Rattle.std.proofs.Common.{drop}
use Rattle.warp_run.specs.declared.reporting.buffer.ReportBuffer.{ReportBuffer}
use Rattle.warp_run.specs.Buffer.{AddsText}
use Rattle.std.specs.List.{flat_map}
use Rattle.warp_run.specs.Report.{decision_line}
use Rattle.warp_run.proofs.reporting.add_decisions.Given as goal

-- what adds the rest from here adds all from the start
abbrev pub invariant-loop-put : goal.invariant-loop-put
invariant-loop-put g l =
    (w : g.row.W.Denot) (b : ReportBuffer) → AddsText g.W.Sink.puts g.W.Write.contents l.writer l.buffer w b (flat_map decision_line (drop l.put-index l.decided))
    → AddsText g.W.Sink.puts g.W.Write.contents l.initial.writer l.initial.buffer w b (flat_map decision_line l.decided)
