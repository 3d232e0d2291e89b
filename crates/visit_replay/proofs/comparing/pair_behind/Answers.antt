use Rattle.std.proofs.Common.{◌∷◌, [], ◌++◌, option_map, sym, ap, ◌∙◌}
use Rattle.form_urlencoded.specs.Form.{byte_serialize}
use Rattle.visit_replay.specs.inside.FieldsNow.{value_sent}
use Rattle.visit_replay.proofs.LeftBehind.{stops, value_left, no_name, no_mid}
use Rattle.visit_replay.proofs.comparing.pair_behind.Goals as goal

pub returns-in_err-name : goal.returns-in_err-name
returns-in_err-name c =
    let sent = c.args.sent.now in
    ap (option_map (λ rest. rest.now)) c.from_residual.ensures
    ∙ sym (stops c.args.mark.now (byte_serialize sent.name.now ++ (61 ∷ []) ++ byte_serialize (value_sent sent.value)) c.args.text.now c.in_err-name.ensures)

pub returns-in_err-equals : goal.returns-in_err-equals
returns-in_err-equals c =
    let sent = c.args.sent.now in
    ap (option_map (λ rest. rest.now)) c.from_residual-in_err-equals.ensures
    ∙ sym (no_name c.args.mark.now (byte_serialize sent.name.now) (61 ∷ []) (byte_serialize (value_sent sent.value)) c.args.text.now c.in_ok-name.name.now c.in_ok-name.ensures c.in_err-equals.ensures)

pub returns-in_err-value : goal.returns-in_err-value
returns-in_err-value c =
    let sent = c.args.sent.now in
    ap (option_map (λ rest. rest.now)) c.from_residual-in_err-value.ensures
    ∙ sym (no_mid c.args.mark.now (byte_serialize sent.name.now) (61 ∷ []) (byte_serialize (value_sent sent.value)) c.args.text.now c.in_ok-name.name.now c.in_ok-equals.equals.now c.in_ok-name.ensures c.in_ok-equals.ensures c.in_err-value.ensures)

pub returns : goal.returns
returns c =
    let sent = c.args.sent.now in
    c.value_behind.ensures
    ∙ sym (value_left c.args.mark.now (byte_serialize sent.name.now) (61 ∷ []) (byte_serialize (value_sent sent.value)) c.args.text.now c.in_ok-name.name.now c.in_ok-equals.equals.now c.in_ok-value.value.now c.in_ok-name.ensures c.in_ok-equals.ensures c.in_ok-value.ensures)
