use Rattle.std.proofs.Common.{ap}
use Rattle.form_urlencoded.specs.Form.{byte_serialize}
use Rattle.warp_run.proofs.BufferLaws.{adds_as, adds_held, ◌>>◌}
use Rattle.warp_run.proofs.reporting.buffer.ReportBuffer.add_encoded.Goals as goal

pub returns-then-has_room_encoded : goal.returns-then-has_room_encoded
returns-then-has_room_encoded g c =
    adds_as
    (adds_held g.W.Sink.puts g.W.Write.contents c.args.writer.now c.args.self.now c.hold_encoded.new.self _ c.hold_encoded.ensures.held c.hold_encoded.ensures.failed)
    (ap byte_serialize c.as_bytes-bytes.ensures.value)

pub returns-then-has_room_encoded-2 : goal.returns-then-has_room_encoded-2
returns-then-has_room_encoded-2 g c =
    adds_as
    (c.write_held.ensures.added
    >> adds_held g.W.Sink.puts g.W.Write.contents c.write_held.new.writer c.write_held.new.self c.hold_encoded-then-has_room_encoded-2.new.self _
    c.hold_encoded-then-has_room_encoded-2.ensures.held c.hold_encoded-then-has_room_encoded-2.ensures.failed)
    (ap byte_serialize c.as_bytes-bytes.ensures.value)

pub returns-else-has_room_encoded-2 : goal.returns-else-has_room_encoded-2
returns-else-has_room_encoded-2 g c = adds_as (c.write_held.ensures.added >> c.add_pieces.ensures) (ap byte_serialize c.as_bytes-bytes.ensures.value)
