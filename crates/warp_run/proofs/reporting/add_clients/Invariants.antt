use Rattle.std.proofs.Common.{drop}
use Rattle.warp_run.specs.declared.reporting.buffer.ReportBuffer.{ReportBuffer}
use Rattle.warp_run.specs.Buffer.{AddsText}
use Rattle.std.specs.List.{flat_map}
use Rattle.warp_run.specs.Report.{client_text}
use Rattle.warp_run.proofs.reporting.add_clients.Given as goal

-- what adds the rest from here adds all from the start
abbrev pub invariant-loop-client : goal.invariant-loop-client
invariant-loop-client g l =
    (w : g.row.W.Denot) (b : ReportBuffer) → AddsText g.W.Sink.puts g.W.Write.contents l.writer l.buffer w b (flat_map (client_text l.desk) (drop l.client-index l.clients))
    → AddsText g.W.Sink.puts g.W.Write.contents l.initial.writer l.initial.buffer w b (flat_map (client_text l.desk) l.clients)
