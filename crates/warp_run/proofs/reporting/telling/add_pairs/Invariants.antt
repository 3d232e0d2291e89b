use Rattle.std.proofs.Common.{[]}
use Rattle.warp_run.specs.declared.reporting.buffer.ReportBuffer.{ReportBuffer}
use Rattle.warp_run.specs.Buffer.{AddsText}
use Rattle.visit_replay.specs.inside.Tellings.{pairs_told}
use Rattle.visit_replay.proofs.LeftBehind.{joined}
use Rattle.warp_run.proofs.EncodedLaws.{pairs_from}
use Rattle.warp_run.proofs.reporting.telling.add_pairs.Given as goal
use denote.Shadow.{shadow}
use denote.Text.{Utf8}

-- what adds the rest from here adds all from the start
abbrev pub invariant-loop-place : goal.invariant-loop-place
invariant-loop-place g l = record {
  text : shadow (Utf8 l.mark);
  rest : (w : g.row.W.Denot) (b : ReportBuffer) → AddsText g.W.Sink.puts g.W.Write.contents l.writer l.buffer w b (joined l.mark (pairs_from l.pairs l.place))
      → AddsText g.W.Sink.puts g.W.Write.contents l.initial.writer l.initial.buffer w b (joined [] (pairs_told l.pairs));
}
