use Rattle.std.proofs.Common.{option_map, sym, ap, ◌∙◌}
use Rattle.form_urlencoded.specs.Serialize.{serialized_text}
use Rattle.visit_replay.specs.inside.FieldsNow.{left_behind}
use Rattle.visit_replay.proofs.LeftBehind.{past_front, stops}
use Rattle.visit_replay.proofs.encoded_words.pieces_behind.Goals as goal

pub returns-in_err-rest : goal.returns-in_err-rest
returns-in_err-rest c =
    let rest = c.loop-piece.rest.now in
    ap (option_map (λ rest. rest.now)) c.from_residual.ensures
    ∙ sym (stops c.in-Some.piece.now (serialized_text c.next.new.self) rest c.in_err-rest.ensures)
    ∙ ap (λ front. left_behind front rest) (sym c.in-Some.ensures.steps)
    ∙ c.loop-piece.invariant

pub loop-piece-preserved : goal.loop-piece-preserved
loop-piece-preserved c =
    let rest = c.loop-piece.rest.now in
    sym (past_front c.in-Some.piece.now (serialized_text c.next.new.self) rest c.in_ok-rest.rest.now c.in_ok-rest.ensures)
    ∙ ap (λ front. left_behind front rest) (sym c.in-Some.ensures.steps)
    ∙ c.loop-piece.invariant
