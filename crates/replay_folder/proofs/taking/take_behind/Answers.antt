use Rattle.std.proofs.Common.{inl}
use Rattle.std.proofs.lemmas.Result.{IfOk-weaker}
use Rattle.byte_streams.specs.Reading.{WasRead}
use Rattle.replay_folder.proofs.TakenFilesLaws.{taking_room}
use Rattle.replay_folder.proofs.taking.take_behind.Goals as goal

pub open_next-requires-clause-whole : goal.open_next-requires-clause-whole
open_next-requires-clause-whole g c κs within = inl c.requires.whole

pub returns : goal.returns
returns g c =
    let was_read = WasRead g.F.Source.answers g.F.Read.remaining in let opened = g.O.OpensUploads.opened c.args.opener.now in
    IfOk-weaker c.take_alone.result _ _
    (λ more goes before had. goes c.args.quota before (taking_room was_read opened c.args.quota before c.args.round c.in_ok-next.next c.in_ok-next.ensures.made had))
    c.take_alone.ensures
