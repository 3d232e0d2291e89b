use Rattle.std.proofs.Common.{[], ◌++◌, codes, sym, ◌∙◌}
use Rattle.form_urlencoded.specs.Form.{extend_pairs}
use Rattle.visit_replay.specs.inside.Senders.{sent_all}
use Rattle.visit_replay.proofs.LeftBehind.{eq_behind, not_eq}
use Rattle.visit_replay.proofs.comparing.is_sent_to.Goals as goal

pub returns-in-Some : goal.returns-in-Some
returns-in-Some c =
    let sent = extend_pairs [] (sent_all c.args.filled.now c.args.senders.now) in
    c.are_pairs.ensures ∙ sym (eq_behind (c.args.start.now ++ codes "?") sent c.args.address.now c.in-Some.query.now c.in-Some.ensures)

pub returns-in-None : goal.returns-in-None
returns-in-None c =
    sym (not_eq (c.args.start.now ++ codes "?") (extend_pairs [] (sent_all c.args.filled.now c.args.senders.now)) c.args.address.now c.in-None.ensures)
