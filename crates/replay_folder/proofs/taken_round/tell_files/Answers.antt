use Rattle.std.proofs.Common.{◌++◌, ap, ◌∙◌}
use Rattle.std.proofs.lemmas.Result.{IfOk-weaker}
use Rattle.byte_streams.specs.Reading.{WasRead}
use Rattle.replay_folder.specs.inside.Stretch.{waiting_file}
use Rattle.replay_folder.proofs.TellingLaws.{files_front, none_behind, waits_behind}
use Rattle.replay_folder.proofs.taken_round.tell_files.Goals as goal

pub returns-in-None-clause-told : goal.returns-in-None-clause-told
returns-in-None-clause-told g c = λ opener quota before names files taking.
    let was_read = WasRead g.F.Source.answers g.F.Read.remaining in let opened = g.O.OpensUploads.opened opener in
    let all = c.args.files.items in let front = c.split_waiting-front.result.0.items in
    let own = files_front was_read opened quota before names all front c.split_waiting-front.result.1 c.split_waiting-front.ensures files in
    none_behind was_read opened quota before names all front (c.split_waiting-front.ensures ∙ ap (λ waits. front ++ waiting_file waits) c.in-None.is) c.in_ok-next.next
    (c.in_ok-next.ensures.told opener quota before names own taking)

pub returns-in-Some-clause-told : goal.returns-in-Some-clause-told
returns-in-Some-clause-told g c =
    IfOk-weaker c.hold_waiting.result _ _
    (λ more tells opener quota before names files taking.
    let was_read = WasRead g.F.Source.answers g.F.Read.remaining in let opened = g.O.OpensUploads.opened opener in
    let all = c.args.files.items in let front = c.split_waiting-front.result.0.items in
    let own = files_front was_read opened quota before names all front c.split_waiting-front.result.1 c.split_waiting-front.ensures files in
    waits_behind was_read opened quota before names all front c.in-Some.upload (c.split_waiting-front.ensures ∙ ap (λ waits. front ++ waiting_file waits) c.in-Some.is) files c.in_ok-next.next more c.in_ok-next.ensures.none tells
    (c.in_ok-next.ensures.told opener quota before names own taking))
    c.hold_waiting.ensures.told
