use Rattle.std.proofs.Common.{◌≡◌, ◌∷◌, [], Some, None, sym, ap, ◌∙◌, rules}
use Rattle.visit_replay.specs.inside.FieldsNow.{left_behind}
use Rattle.visit_replay.proofs.LeftBehind.{past_front, stops}
use Rattle.visit_replay.proofs.comparing.query_behind.Goals as goal

pub returns-in_err-rest : goal.returns-in_err-rest
returns-in_err-rest c =
    let start = c.args.start.now in
    let none : None ≡ left_behind start c.args.address.now = c.in_err-rest.ensures ∙ ap (left_behind start) c.as_bytes.ensures.value in
    let stopped = stops start (63 ∷ []) c.args.address.now none in
    search (rules, stopped)

pub returns : goal.returns
returns c =
    let start = c.args.start.now in
    let some : Some c.in_ok-rest.rest.now ≡ left_behind start c.args.address.now = c.in_ok-rest.ensures ∙ ap (left_behind start) c.as_bytes.ensures.value in
    c.behind-2.ensures ∙ sym (past_front start (63 ∷ []) c.args.address.now c.in_ok-rest.rest.now some)
