use Rattle.std.proofs.Common.{◌≡◌, ◌++◌, [], ◌∷◌, length, string_bytes, ◌∙◌, ap, arith}
use Rattle.visit_replay.specs.inside.Deed.{Sent}
use Rattle.visit_replay.proofs.KeptDeeds.{sent_added}
use Rattle.visit_replay.proofs.deeds.Deeds.push_sent.Goals as goal

pub returns-clause-ok : goal.returns-clause-ok
returns-clause-ok c =
    let inside = c.self.inside in
    let at : c.in_ok-at.at ≡ length inside.submits.items = omega (arith, c.in_ok-at.ensures, c.len.ensures, inside.submits.ok.0) in
    rw (c.push-2.ensures.items, c.unwrap.ensures, c.in_ok-reserve.ensures.items, c.in_ok-push.ensures.items)
    (sent_added (string_bytes inside.typed) inside.submits.items c.args.button c.args.req inside.kept.items c.args.form c.in_ok-at.at at c.self.invariant)
    ∙ ap (λ deeds. deeds.items ++ Sent c.args.form c.args.button c.args.req ∷ []) c.self.view_is
