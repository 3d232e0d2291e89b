use Rattle.std.proofs.Common.{sym, subst, ◌∙◌}
use Rattle.std.proofs.lemmas.Result.{IfOk-weaker}
use Rattle.byte_streams.specs.Reading.{WasRead}
use Rattle.replay_folder.specs.inside.{GreetsNamed}
use Rattle.replay_folder.proofs.TakenFilesLaws.{is_whole, is_no_whole, end_held, upload_alone, unread_told}
use Rattle.replay_folder.proofs.taking.take_alone.Goals as goal

pub returns-then-is_short : goal.returns-then-is_short
returns-then-is_short g c =
    IfOk-weaker c.leave_unread.result _ _
    (λ more leaves quota before had. unread_told (WasRead g.F.Source.answers g.F.Read.remaining) (g.O.OpensUploads.opened c.args.opener.now) quota before c.args.named.now c.args.round more
    (is_no_whole c.args.round.taken.status (sym c.is_short.ensures ∙ c.if-is_short.true)) leaves had)
    c.leave_unread.ensures

pub returns-in-Err : goal.returns-in-Err
returns-in-Err g c =
    let was_read = WasRead g.F.Source.answers g.F.Read.remaining in let opened = g.O.OpensUploads.opened c.args.opener.now in
    let greets = subst (GreetsNamed was_read opened c.args.named.now) c.in-Err.is c.in_ok-end.ensures in
    IfOk-weaker c.hold_end.result _ _
    (λ more holds quota before had. end_held was_read opened quota before c.args.named.now c.args.round more c.in-Err.end greets holds
    (is_whole c.args.round.taken.status (sym c.is_short.ensures ∙ c.if-is_short.false)) (λ shut. c.requires.none) had)
    c.hold_end.ensures

pub returns-in-Ok : goal.returns-in-Ok
returns-in-Ok g c =
    let was_read = WasRead g.F.Source.answers g.F.Read.remaining in let opened = g.O.OpensUploads.opened c.args.opener.now in
    let greets = subst (GreetsNamed was_read opened c.args.named.now) c.in-Ok.is c.in_ok-end.ensures in
    IfOk-weaker c.hold_upload.result _ _
    (λ more holds quota before had. upload_alone was_read opened quota before c.args.named.now c.args.round more c.in-Ok.upload greets holds
    (is_whole c.args.round.taken.status (sym c.is_short.ensures ∙ c.if-is_short.false)) c.requires.none had)
    c.hold_upload.ensures
