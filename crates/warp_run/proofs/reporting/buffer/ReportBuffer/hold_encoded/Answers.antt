use Rattle.std.proofs.Common.{◌∙◌, arith}
use Rattle.warp_run.proofs.EncodedLaws.{byte_held, word_held}
use Rattle.warp_run.proofs.reporting.buffer.ReportBuffer.hold_encoded.Goals as goal

pub loop-byte-preserved : goal.loop-byte-preserved
loop-byte-preserved c =
    let l = c.loop-byte in
    record {
      held = byte_held l.self.held.items c.hold_one.new.self.held.items c.args.word.now l.byte-index c.loop-byte-test.true c.hold_one.ensures.held ∙ l.invariant.held;
      room = omega (arith, l.invariant.room, c.hold_one.ensures.len, c.hold_one.ensures.capacity, c.loop-byte-test.true);
      failed = c.hold_one.ensures.failed ∙ l.invariant.failed;
    }

pub returns-clause-held : goal.returns-clause-held
returns-clause-held c =
    let l = c.loop-byte in
    word_held l.self.held.items c.args.word.now l.byte-index c.loop-byte-test.false ∙ l.invariant.held
