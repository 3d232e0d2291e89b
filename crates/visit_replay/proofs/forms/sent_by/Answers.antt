use Rattle.std.proofs.Common.{Bool, if◌then◌else◌, not, get_or, Some, None, option_map, unwrap_or, subst, sym, ap, ◌∙◌}
use Rattle.visit_replay.specs.inside.FieldsNow.{value_sent}
use Rattle.visit_replay.specs.inside.KeptFields.{turned_now}
use Rattle.visit_replay.specs.inside.Senders.{SendsThere}
use Rattle.visit_replay.proofs.SentByKind.{text_sent, check_sent, check_passed, radio_sent, button_sent, button_passed}
use Rattle.visit_replay.proofs.forms.sent_by.Goals.{in_default-via-in-IfOn+else-is_on_from, in_default-via-in-IfPressed+else-is_pressed}
use Rattle.visit_replay.proofs.forms.sent_by.Goals as goal

pub returns-in-Text : goal.returns-in-Text
returns-in-Text c =
    let here = subst (SendsThere c.args.filled.now.page.now c.args.sender.now.number) c.in-Text.is c.requires.sends in
    let written = option_map (λ t. t.now) (get_or c.args.filled.now.fields.now.texts.items c.args.sender.now.number None) in
    text_sent c.args.filled.now c.args.sender.now c.requires here.0 (value_sent c.held.result) (sym (c.held.ensures ∙ ap (unwrap_or written) here.1))

pub returns-in-IfOn : goal.returns-in-IfOn
returns-in-IfOn c =
    let here = subst (SendsThere c.args.filled.now.page.now c.args.sender.now.number) c.in-IfOn.is c.requires.sends in
    let turned = turned_now c.args.filled.now.fields.now c.args.sender.now.number in
    ap Some c.sent_as.ensures
    ∙ check_sent c.args.filled.now c.args.sender.now c.requires here.0 c.in-IfOn.value.now here.1
    (ap (λ (start : Bool). if turned then not start else start) (sym here.2) ∙ sym c.is_on_from.ensures ∙ c.if-is_on_from.true)

pub returns-in-Always : goal.returns-in-Always
returns-in-Always c =
    let here = subst (SendsThere c.args.filled.now.page.now c.args.sender.now.number) c.in-Always.is c.requires.sends in
    ap Some c.sent_as-in-Always.ensures ∙ radio_sent c.args.filled.now c.args.sender.now c.requires here.0 c.in-Always.value.now here.1 (sym here.2)

pub returns-in-IfPressed : goal.returns-in-IfPressed
returns-in-IfPressed c =
    let here = subst (SendsThere c.args.filled.now.page.now c.args.sender.now.number) c.in-IfPressed.is c.requires.sends in
    ap Some c.sent_as-in-IfPressed.ensures
    ∙ button_sent c.args.filled.now c.args.sender.now c.requires here.0 c.in-IfPressed.value.now here.1 (sym c.is_pressed.ensures ∙ c.if-is_pressed.true)

pub returns-in_default : goal.returns-in_default
returns-in_default c = elim c.in_default.branch [
  | in_default-via-in-IfOn+else-is_on_from w ↦
      let here = subst (SendsThere c.args.filled.now.page.now c.args.sender.now.number) w.in-IfOn.is c.requires.sends in
      let turned = turned_now c.args.filled.now.fields.now c.args.sender.now.number in
      check_passed c.args.filled.now c.args.sender.now c.requires here.0
      (ap (λ (start : Bool). if turned then not start else start) (sym here.2) ∙ sym w.is_on_from.ensures ∙ w.if-is_on_from.false)
  | in_default-via-in-IfPressed+else-is_pressed w ↦
      let here = subst (SendsThere c.args.filled.now.page.now c.args.sender.now.number) w.in-IfPressed.is c.requires.sends in
      button_passed c.args.filled.now c.args.sender.now c.requires here.0 (sym w.is_pressed.ensures ∙ w.if-is_pressed.false)
]
