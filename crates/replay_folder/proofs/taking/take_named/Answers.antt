use Rattle.std.proofs.Common.{bytes_eq, sym, ap, subst, ◌∙◌}
use Rattle.std.specs.List.{list_any}
use Rattle.std.proofs.lemmas.Result.{IfOk-weaker}
use Rattle.byte_streams.specs.Reading.{WasRead}
use Rattle.replay_folder.specs.inside.{GreetsNamed}
use Rattle.replay_folder.proofs.TakenFilesLaws.{is_whole, is_no_whole, end_held, upload_held, unread_told, taking_room}
use Rattle.replay_folder.proofs.taking.take_named.Goals as goal

pub make_room-requires-clause-whole : goal.make_room-requires-clause-whole
make_room-requires-clause-whole g c κs within = is_whole c.args.round.taken.status (sym c.is_short.ensures ∙ c.if-is_short.false)

pub returns-then-is_short : goal.returns-then-is_short
returns-then-is_short g c =
    IfOk-weaker c.leave_unread.result _ _
    (λ more leaves before had. unread_told (WasRead g.F.Source.answers g.F.Read.remaining) (g.O.OpensUploads.opened c.args.opener.now) c.args.quota before c.args.named.now c.args.round more
    (is_no_whole c.args.round.taken.status (sym c.is_short.ensures ∙ c.if-is_short.true)) leaves had)
    c.leave_unread.ensures

pub take_behind-requires-clause-whole : goal.take_behind-requires-clause-whole
take_behind-requires-clause-whole g c κs within = is_whole c.args.round.taken.status (sym c.is_short.ensures ∙ c.if-is_short.false)

pub take_behind-requires-then-may_open_alone-clause-whole : goal.take_behind-requires-then-may_open_alone-clause-whole
take_behind-requires-then-may_open_alone-clause-whole g c κs within = is_whole c.args.round.taken.status (sym c.is_short.ensures ∙ c.if-is_short.false)

pub returns-else-may_open_alone : goal.returns-else-may_open_alone
returns-else-may_open_alone g c =
    let was_read = WasRead g.F.Source.answers g.F.Read.remaining in let opened = g.O.OpensUploads.opened c.args.opener.now in
    let greets = subst (GreetsNamed was_read opened c.args.named.now) c.in-Err.is c.in-Ok.ensures in
    IfOk-weaker c.hold_end.result _ _
    (λ more holds before had. end_held was_read opened c.args.quota before c.args.named.now c.args.round more c.in-Err.end greets holds
    (is_whole c.args.round.taken.status (sym c.is_short.ensures ∙ c.if-is_short.false)) (λ shut. sym c.as_slice.ensures.value ∙ c.may_open_alone.ensures c.if-may_open_alone.false shut) had)
    c.hold_end.ensures

pub returns-then-is_short-2 : goal.returns-then-is_short-2
returns-then-is_short-2 g c =
    let was_read = WasRead g.F.Source.answers g.F.Read.remaining in let opened = g.O.OpensUploads.opened c.args.opener.now in
    let between = c.in_ok-round-in-Ok-said.round in
    IfOk-weaker c.leave_unread-then-is_short-2.result _ _
    (λ more leaves before had. unread_told was_read opened c.args.quota before c.args.named.now between more
    (is_no_whole between.taken.status (sym c.is_short-in-Ok-said.ensures ∙ c.if-is_short-2.true)) leaves
    (taking_room was_read opened c.args.quota before c.args.round between c.in_ok-round-in-Ok-said.ensures.made had))
    c.leave_unread-then-is_short-2.ensures

pub returns-else-is_short-2 : goal.returns-else-is_short-2
returns-else-is_short-2 g c =
    let was_read = WasRead g.F.Source.answers g.F.Read.remaining in let opened = g.O.OpensUploads.opened c.args.opener.now in
    let between = c.in_ok-round-in-Ok-said.round in let made = c.in_ok-round-in-Ok-said.ensures in
    let greets = subst (GreetsNamed was_read opened c.args.named.now) c.in-Ok-said.is c.in-Ok.ensures in
    let apart = ap (λ client. list_any (λ one. bytes_eq client one.client) between.uploads.items) (sym c.client.ensures) ∙ made.apart in
    IfOk-weaker c.hold_upload.result _ _
    (λ more holds before had. upload_held was_read opened c.args.quota before c.args.named.now between more c.in-Ok-said.upload greets holds
    (is_whole between.taken.status (sym c.is_short-in-Ok-said.ensures ∙ c.if-is_short-2.false)) made.few apart
    (taking_room was_read opened c.args.quota before c.args.round between made.made had))
    c.hold_upload.ensures
