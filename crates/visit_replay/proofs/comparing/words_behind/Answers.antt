use Rattle.std.proofs.Common.{◌≡◌, ◌++◌, option_map, sym, ap, ◌∙◌}
use Rattle.std.specs.List.{flat_map}
use Rattle.form_urlencoded.specs.Form.{byte_serialize}
use Rattle.form_urlencoded.proofs.FormLemmas.{byte_serialize-append, byte_serialize-nil}
use Rattle.visit_replay.specs.inside.FieldsNow.{left_behind}
use Rattle.visit_replay.proofs.LeftBehind.{past_front, stops}
use Rattle.visit_replay.proofs.comparing.words_behind.Goals as goal

pub returns-in_err-rest : goal.returns-in_err-rest
returns-in_err-rest c =
    let rest = c.loop-word.rest.now in
    let word = c.in-Some.word.now in
    let more = flat_map (λ w. w) c.next.new.self in
    let front : byte_serialize (flat_map (λ w. w) c.loop-word.words) ≡ byte_serialize word ++ byte_serialize more = ap (λ ws. byte_serialize (flat_map (λ w. w) ws)) c.in-Some.ensures ∙ byte_serialize-append word more in
    ap (option_map (λ rest. rest.now)) c.from_residual.ensures ∙ sym (stops (byte_serialize word) (byte_serialize more) rest c.in_err-rest.ensures)
    ∙ ap (λ f. left_behind f rest) (sym front) ∙ c.loop-word.invariant

pub loop-word-preserved : goal.loop-word-preserved
loop-word-preserved c =
    let rest = c.loop-word.rest.now in
    let word = c.in-Some.word.now in
    let more = flat_map (λ w. w) c.next.new.self in
    let front : byte_serialize (flat_map (λ w. w) c.loop-word.words) ≡ byte_serialize word ++ byte_serialize more = ap (λ ws. byte_serialize (flat_map (λ w. w) ws)) c.in-Some.ensures ∙ byte_serialize-append word more in
    sym (past_front (byte_serialize word) (byte_serialize more) rest c.in_ok-rest.rest.now c.in_ok-rest.ensures) ∙ ap (λ f. left_behind f rest) (sym front) ∙ c.loop-word.invariant

pub returns : goal.returns
returns c =
    ap (λ f. left_behind f c.loop-word.rest.now) (sym (ap (λ ws. byte_serialize (flat_map (λ w. w) ws)) c.in_default.ensures.0 ∙ byte_serialize-nil)) ∙ c.loop-word.invariant
