use Rattle.std.proofs.Common.{List, Option, ap, sym, ◌∙◌}
use Rattle.visit_replay.specs.declared.requests.Request.{Request}
use Rattle.warp_run.specs.Report.{told_requests}
use Rattle.warp_run.proofs.BufferLaws.{adds_as, adds_failed, adds_nothing, ◌>>◌}
use Rattle.warp_run.proofs.ReportLaws.{told_here, told_none}
use Rattle.warp_run.proofs.reporting.add_requests.Goals as goal

pub loop-buffer-preserved : goal.loop-buffer-preserved
loop-buffer-preserved g c w b put =
    let room = c.loop-buffer.room in
    let next = c.advance.ensures.next c.loop-buffer-test.true in
    let before = c.advance-in-loop-buffer.ensures in
    c.loop-buffer.invariant w b
    (adds_as (◌>>◌ {q = told_requests c.advance-in-loop-buffer.new.self.1 c.advance.new.self.1} c.add_both.ensures put)
    (told_here room.former.1 c.advance-in-loop-buffer.new.self.1 room.requests.1 c.advance.new.self.1 next.0 c.advance.new.self.0 c.advance-in-loop-buffer.new.self.0
    next.1 next.2 (ap (λ (t : Option Request × List (Option Request)). t.0) before) (ap (λ (t : Option Request × List (Option Request)). t.1) before)))

pub returns : goal.returns
returns g c =
    let room = c.loop-buffer.room in
    c.loop-buffer.invariant c.loop-buffer.writer c.loop-buffer.buffer
    (adds_as (adds_nothing g.W.Sink.puts g.W.Write.contents c.loop-buffer.writer c.loop-buffer.buffer)
    (told_none room.former.1 room.requests.1 (c.advance.ensures.none c.loop-buffer-test.false)))

pub returns-then-has_failed : goal.returns-then-has_failed
returns-then-has_failed g c =
    c.loop-buffer.invariant c.loop-buffer.writer c.loop-buffer.buffer
    (adds_failed g.W.Sink.puts g.W.Write.contents c.loop-buffer.writer c.loop-buffer.buffer c.loop-buffer.buffer (told_requests c.loop-buffer.room.former.1 c.loop-buffer.room.requests.1)
    (sym c.has_failed.ensures ∙ c.if-has_failed.true) (sym c.has_failed.ensures ∙ c.if-has_failed.true))
