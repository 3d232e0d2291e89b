use Rattle.std.proofs.Common.{◌≡◌, IsSome, subst}
use Rattle.byte_streams.specs.Reading.{ReadsWhile}
use Rattle.upload_reader.specs.Upload.{UploadState, GivesFirst, NothingMore}
use Rattle.upload_reader.proofs.LaneLaws.{gives_first, few_taken, text_plain, text_short, answered, lane_reads, lane_unread, over_of}
use Rattle.upload_reader.proofs.upload.Upload.next.Goals as goal

pub returns-in-Some-clause-first : goal.returns-in-Some-clause-first
returns-in-Some-clause-first g c = subst GivesFirst c.self.view_is (gives_first _ _ c.self.invariant)

pub next_text-number-requires-clause-few : goal.next_text-number-requires-clause-few
next_text-number-requires-clause-few g c κs within = rw c.lines.ensures (few_taken _ _ c.self.invariant c.in-None.is)

pub answer-answer-requires-clause-text : goal.answer-answer-requires-clause-text
answer-answer-requires-clause-text g c = rw c.line.ensures (text_plain _ _ _ c.self.inside.progress _ _ (rw c.in-None.is at c.self.invariant) _ (rw c.lines.ensures at c.next_text-number.ensures))

pub answer-answer-requires-clause-short : goal.answer-answer-requires-clause-short
answer-answer-requires-clause-short g c = rw c.line.ensures (text_short _ _ _ c.self.inside.progress _ _ (rw c.in-None.is at c.self.invariant) _ (rw c.lines.ensures at c.next_text-number.ensures))

pub invariant_of-self : goal.invariant_of-self
invariant_of-self g c = let own = c.answer-answer.ensures in
    rw c.ending-self-inside.ensures
    (answered _ _ _ c.self.inside.progress _ _ (rw c.in-None.is at c.self.invariant) _ (rw c.lines.ensures at c.next_text-number.ensures) c.answer-answer.new.self _ own.lane own.given own.lines (rw c.line.ensures at own.said) own.stopped)

pub returns-clause-reads : goal.returns-clause-reads
returns-clause-reads g c = subst (λ (upload : UploadState _). ReadsWhile (NothingMore upload) upload.lines c.next_text-number.new.lines) c.self.view_is
    (lane_reads _ _ _ c.self.inside.progress _ _ (rw c.in-None.is at c.self.invariant) _ (rw c.lines.ensures at c.next_text-number.ensures))

pub returns-clause-unread : goal.returns-clause-unread
returns-clause-unread g c = subst (λ (upload : UploadState _). IsSome upload.lines.fault → c.next_text-number.new.lines ≡ upload.lines) c.self.view_is
    (lane_unread _ _ _ c.self.inside.progress _ _ (rw c.in-None.is at c.self.invariant) _ (rw c.lines.ensures at c.next_text-number.ensures))

pub returns-clause-first : goal.returns-clause-first
returns-clause-first g c = gives_first _ _ (invariant_of-self g c)

pub returns-clause-over : goal.returns-clause-over
returns-clause-over g c = over_of _ c.answer-answer.result (rw c.ending-self-inside.ensures at (invariant_of-self g c).ended)
