use Rattle.std.proofs.Common.{sym}
use Rattle.warp_run.proofs.BufferLaws.{adds_as, adds_nothing, ◌>>◌}
use Rattle.warp_run.proofs.reporting.buffer.ReportBuffer.add_pieces.Goals as goal

pub loop-piece-preserved : goal.loop-piece-preserved
loop-piece-preserved g c w b put = c.loop-piece.invariant w b (adds_as (c.add.ensures >> put) (sym c.in-Some.ensures.steps))

pub returns : goal.returns
returns g c =
    c.loop-piece.invariant c.loop-piece.writer c.loop-piece.self
    (adds_as (adds_nothing g.W.Sink.puts g.W.Write.contents c.loop-piece.writer c.loop-piece.self) (sym c.in-None.ensures.steps))
