use Rattle.warp_run.proofs.BufferLaws.{adds_held, ◌>>◌}
use Rattle.warp_run.proofs.reporting.buffer.ReportBuffer.add_bytes.Goals as goal

pub returns-then-has_room-2 : goal.returns-then-has_room-2
returns-then-has_room-2 g c =
    c.write_held.ensures.added
    >> adds_held g.W.Sink.puts g.W.Write.contents c.write_held.new.writer c.write_held.new.self c.hold-then-has_room-2.new.self c.args.bytes.now
    c.hold-then-has_room-2.ensures.held c.hold-then-has_room-2.ensures.failed
