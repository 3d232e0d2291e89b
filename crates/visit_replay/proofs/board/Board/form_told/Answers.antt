use Rattle.std.proofs.Common.{IfSome, All, take, subst, sym, ap, ◌∙◌}
use Rattle.page_tree.specs.Number.{place_numbered}
use Rattle.visit_replay.specs.Form.{action_of}
use Rattle.visit_replay.specs.inside.Senders.{IsSender, SaysFresh, SendUnder}
use Rattle.visit_replay.proofs.BoardLaws.{form_sends, known_right}
use Rattle.visit_replay.proofs.board.Board.form_told.Goals as goal

pub returns-clause-told : goal.returns-clause-told
returns-clause-told c =
    let board = c.args.self.now in
    let trail = c.args.trail.now in
    let right = known_right board c.args.trail.now.page c.requires.on.wide (c.requires.on.listed c.requires.ready.0) in
    let all = board.senders.all.items in
    let under : SendUnder board.names.now trail.page c.args.form all = subst (λ o. IfSome o (λ form. SendUnder board.names.now trail.page form all)) c.requires.ready.1 right.under in
    let here : SendUnder board.names.now trail.page c.args.form c.as_slice.result.now = subst (SendUnder board.names.now trail.page c.args.form) (sym c.as_slice.ensures) under in
    form_sends trail.address trail.page (take board.at trail.deeds.items) board.names.now c.args.form c.args.req c.args.button c.as_slice.result.now c.filled.result board.fields
    c.is_post.result c.action_of.result.now here c.filled.ensures.page c.filled.ensures.fields c.filled.ensures.button c.requires.button c.requires.on.held c.is_post.ensures (c.action_of.ensures ∙ ap (λ a. action_of a (place_numbered c.args.form trail.page) trail.page) c.as_str.ensures)

pub returns-clause-marked : goal.returns-clause-marked
returns-clause-marked c =
    let board = c.args.self.now in
    let right = known_right board c.args.trail.now.page c.requires.on.wide (c.requires.on.listed c.requires.ready.0) in
    let all = board.senders.all.items in
    let under : SendUnder board.names.now c.args.trail.now.page c.args.form all = subst (λ o. IfSome o (λ form. SendUnder board.names.now c.args.trail.now.page form all)) c.requires.ready.1 right.under in
    subst (All (SaysFresh board.names.now)) (sym c.as_slice.ensures) under.marked

pub invariant_of-result : goal.invariant_of-result
invariant_of-result c =
    let board = c.args.self.now in
    let right = known_right board c.args.trail.now.page c.requires.on.wide (c.requires.on.listed c.requires.ready.0) in
    let all = board.senders.all.items in
    let under : SendUnder board.names.now c.args.trail.now.page c.args.form all = subst (λ o. IfSome o (λ form. SendUnder board.names.now c.args.trail.now.page form all)) c.requires.ready.1 right.under in
    record { are = subst (λ p. All (IsSender p) c.as_slice.result.now) (sym c.filled.ensures.page) (subst (All (IsSender c.args.trail.now.page)) (sym c.as_slice.ensures) under.each) }
