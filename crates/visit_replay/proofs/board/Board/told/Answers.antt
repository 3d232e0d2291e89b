use Rattle.std.proofs.Common.{◌≡◌, Some, None, take, sym, ap, ◌∙◌, rules}
use Rattle.visit_replay.specs.inside.Deeds.{deed_request, form_asked}
use Rattle.visit_replay.specs.inside.KeptDeeds.{deed_seen}
use Rattle.visit_replay.proofs.BoardLaws.{asked_by}
use Rattle.visit_replay.proofs.board.Board.told.Goals as goal

pub returns-in-Clicked-clause-marked : goal.returns-in-Clicked-clause-marked
returns-in-Clicked-clause-marked c = c.link_told.ensures.marked c.args.self.now.names.now

pub returns-in-Sent-default-default-eq0-clause-told : goal.returns-in-Sent-default-default-eq0-clause-told
returns-in-Sent-default-default-eq0-clause-told c =
    let trail = c.args.trail.now in
    let deed = deed_seen c.seen.result in
    let before = take c.args.place trail.deeds.items in
    let none : deed_request trail.address trail.page before deed ≡ None = search rules in
    sym (asked_by trail c.args.place deed c.seen.ensures ∙ none)

pub returns-in-Sent-clause-told : goal.returns-in-Sent-clause-told
returns-in-Sent-clause-told c =
    let trail = c.args.trail.now in
    let deed = deed_seen c.seen.result in
    let form = c.in-Sent.form in
    let button = c.in-Sent.button in
    let req = c.in-Sent.req in
    let before = take c.args.place trail.deeds.items in
    let some : deed_request trail.address trail.page before deed ≡ Some (form_asked trail.address trail.page before form button req) = search rules in
    ap Some (c.form_told.ensures.told ∙ ap (λ n. form_asked trail.address trail.page (take n trail.deeds.items) form button req) c.requires.at)
    ∙ sym (asked_by trail c.args.place deed c.seen.ensures ∙ some)
