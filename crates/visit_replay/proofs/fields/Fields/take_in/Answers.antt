use Rattle.std.proofs.Common.{subst, sym}
use Rattle.visit_replay.specs.inside.Deeds.{IsDeedOn, text_done, is_on_done}
use Rattle.visit_replay.specs.inside.KeptDeeds.{deed_seen}
use Rattle.visit_replay.specs.inside.KeptFields.{Hold}
use Rattle.visit_replay.proofs.Overlay.{hold_typed, hold_turned}
use Rattle.visit_replay.proofs.fields.Fields.take_in.Goals as goal

pub returns-in-Typed-clause-held : goal.returns-in-Typed-clause-held
returns-in-Typed-clause-held c = λ page text on there held.
    let new = c.type_into.new.self in
    subst (λ d. Hold new page (λ place. text_done page place (text place) (deed_seen d)) (λ place. is_on_done page place (on place) (deed_seen d))) (sym c.in-Typed.is)
    (hold_typed c.args.self.now new page text on c.in-Typed.field c.in-Typed.value (subst (λ d. IsDeedOn page (deed_seen d)) c.in-Typed.is there).0
    c.type_into.ensures.texts c.type_into.ensures.room c.type_into.ensures.turned held)

pub returns-in-Clicked-clause-held : goal.returns-in-Clicked-clause-held
returns-in-Clicked-clause-held c = λ page text on there held.
    let new = c.turn.new.self in
    subst (λ d. Hold new page (λ place. text_done page place (text place) (deed_seen d)) (λ place. is_on_done page place (on place) (deed_seen d))) (sym c.in-Clicked.is)
    (hold_turned c.args.self.now new page text on c.in-Clicked.node (subst (λ d. IsDeedOn page (deed_seen d)) c.in-Clicked.is there).0
    c.turn.ensures.turned c.turn.ensures.room c.turn.ensures.texts held)

pub returns-in-Sent-clause-held : goal.returns-in-Sent-clause-held
returns-in-Sent-clause-held c = λ page text on there held.
    subst (λ d. Hold c.args.self.now page (λ place. text_done page place (text place) (deed_seen d)) (λ place. is_on_done page place (on place) (deed_seen d))) (sym c.in-Sent.is) held
