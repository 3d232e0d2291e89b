use Rattle.std.proofs.Common.{sym, subst, ◌∙◌}
use Rattle.std.specs.Prelude.{IfOk}
use Rattle.byte_streams.specs.Reading.{WasRead}
use Rattle.replay_folder.specs.inside.Stretch.{TellsNext}
use Rattle.replay_folder.proofs.TakenFilesLaws.{is_no_whole, is_whole}
use Rattle.replay_folder.proofs.TakenRoundLaws.{told_next, unread_next}
use Rattle.replay_folder.proofs.taken_round.tell_next.Goals as goal

pub returns-then-is_short : goal.returns-then-is_short
returns-then-is_short g c =
    unread_next (WasRead g.F.Source.answers g.F.Read.remaining) c.args.round c.in_ok-leave_unread.field-0 c.args.file
    (is_no_whole c.args.round.kept.taken.status (sym c.is_short.ensures ∙ c.if-is_short.true)) c.in_ok-leave_unread.ensures

pub returns-in-Told : goal.returns-in-Told
returns-in-Told g c =
    let was_read = WasRead g.F.Source.answers g.F.Read.remaining in
    let kept = c.in_ok-hold_end-in-Told.field-0 in
    subst (λ file. TellsNext was_read c.args.round file (record { kept = kept; own = c.args.round.own })) (sym c.in-Told.is)
    (told_next was_read c.args.round kept c.in-Told.end (is_whole c.args.round.kept.taken.status (sym c.is_short.ensures ∙ c.if-is_short.false)) c.in_ok-hold_end-in-Told.ensures)

pub hold_taken-requires-clause-whole : goal.hold_taken-requires-clause-whole
hold_taken-requires-clause-whole g c κs within = is_whole c.args.round.kept.taken.status (sym c.is_short.ensures ∙ c.if-is_short.false)

pub returns-in-Taken : goal.returns-in-Taken
returns-in-Taken g c =
    subst (λ file. IfOk c.hold_taken.result (TellsNext (WasRead g.F.Source.answers g.F.Read.remaining) c.args.round file)) (sym c.in-Taken.is) c.hold_taken.ensures
