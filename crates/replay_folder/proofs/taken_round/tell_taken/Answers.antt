use Rattle.std.proofs.Common.{◌≡◌, ◌∷◌, ◌++◌, length, take, sym, subst, ◌∙◌, rules}
use Rattle.std.proofs.lemmas.List.{nil_from_length}
use Rattle.byte_streams.specs.Reading.{WasRead}
use Rattle.replay_folder.specs.inside.{HasTakenSoFar}
use Rattle.replay_folder.proofs.TellingLaws.{IsToldUpTo, next_taking, telling_all, telling_none, telling_one}
use Rattle.replay_folder.proofs.taken_round.tell_taken.Goals as goal

pub loop-file-init : goal.loop-file-init
loop-file-init g c = λ opener quota before names files taking.
    let was_read = WasRead g.F.Source.answers g.F.Read.remaining in let opened = g.O.OpensUploads.opened opener in
    let all = c.args.files.items in
    let own = c.new.ensures in
    let first = telling_none was_read opened quota before names all (record { kept = c.args.round; own = c.new.result }) own.clients own.stop c.requires.none taking in
    subst (λ rest. IsToldUpTo was_read opened quota before names all rest (record { kept = c.args.round; own = c.new.result })) (sym c.into_iter-file-iterator.ensures.into_iter_gives.0) first

pub loop-file-preserved : goal.loop-file-preserved
loop-file-preserved g c = λ opener quota before names files taking.
    let rest = c.loop-file.file-iterator.rest.items in let left = c.next.new.self.rest.items in
    let first : rest ≡ c.in-Some.file ∷ left = search rules in
    telling_one (WasRead g.F.Source.answers g.F.Read.remaining) (g.O.OpensUploads.opened opener) quota before names c.args.files.items files c.in-Some.file left rest c.loop-file.told c.in_ok-room.room _ first
    c.in_ok-room.ensures.made c.in_ok-told.ensures (c.loop-file.invariant opener quota before names files taking)

pub returns-clause-told : goal.returns-clause-told
returns-clause-told g c = λ opener quota before names files taking.
    let was_read = WasRead g.F.Source.answers g.F.Read.remaining in let opened = g.O.OpensUploads.opened opener in
    let all = c.args.files.items in let rest = c.loop-file.file-iterator.rest in
    let none = nil_from_length rest.items (sym rest.ok.0 ∙ c.in-None.ensures.steps.0) in
    let next = c.next_round.ensures in
    let taken = telling_all was_read opened quota before names all rest.items c.loop-file.told c.in_ok-close_taken.field-0 none c.in_ok-close_taken.ensures (c.loop-file.invariant opener quota before names files taking) in
    next_taking was_read opened quota (before ++ take (length all) names) c.next_round.result
    (subst (HasTakenSoFar was_read opened quota (before ++ take (length all) names)) (sym next.taken) taken) next.held next.uploads
