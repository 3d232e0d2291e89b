use Rattle.std.proofs.Common.{drop}
use Rattle.warp_run.specs.declared.reporting.buffer.ReportBuffer.{ReportBuffer}
use Rattle.warp_run.specs.Buffer.{AddsText}
use Rattle.replay_folder.specs.FolderReport.{upload_lines}
use Rattle.replay_folder.proofs.lines.add_uploads.Given as goal

-- what adds the rest from here adds all from the start
abbrev pub invariant-loop-k : goal.invariant-loop-k
invariant-loop-k g l =
    (w : g.row.W.Denot) (b : ReportBuffer) → AddsText g.W.Sink.puts g.W.Write.contents l.writer l.buffer w b (upload_lines (drop l.k l.named) (drop l.k l.ends))
    → AddsText g.W.Sink.puts g.W.Write.contents l.initial.writer l.initial.buffer w b (upload_lines l.named l.ends)
