use Rattle.std.proofs.Common.{◌∙◌}
use Rattle.visit_replay.specs.Field.{value_before, is_on_before}
use Rattle.visit_replay.proofs.Overlay.{hold_turned, hold_passed, kept_input, kept_click, kept_submit}
use Rattle.visit_replay.proofs.fields.Fields.note.Goals as goal

pub returns-in-Input : goal.returns-in-Input
returns-in-Input c = λ aim there.
    kept_input aim c.args.self.now c.type_into.new.self c.args.new.now c.args.event.now c.args.number c.as_str.result c.in-Input.is c.as_str.ensures there
    c.type_into.ensures.texts c.type_into.ensures.room c.type_into.ensures.turned

pub returns-in-Check : goal.returns-in-Check
returns-in-Check c = λ aim there.
    let new = c.args.new.now in
    kept_click aim c.args.self.now c.turn.new.self new c.args.event.now c.args.number c.in-Click.is there (λ before kept.
    hold_turned c.args.self.now c.turn.new.self new (value_before aim new before) (is_on_before aim new before) c.args.number there.0
    c.turn.ensures.turned c.turn.ensures.room c.turn.ensures.texts kept)

pub returns-in_default : goal.returns-in_default
returns-in_default c = λ aim there.
    let new = c.args.new.now in
    kept_click aim c.args.self.now c.args.self.now new c.args.event.now c.args.number c.in-Click.is there (λ before kept.
    hold_passed c.args.self.now new (value_before aim new before) (is_on_before aim new before) c.args.number there.0 (λ is. c.in_default.not-Check (c.control_of.ensures ∙ is)) kept)

pub returns-in-Submit : goal.returns-in-Submit
returns-in-Submit c = λ aim there. kept_submit aim c.args.self.now c.args.new.now c.args.event.now c.in-Submit.is
