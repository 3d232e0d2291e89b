use Rattle.std.proofs.Common.{List, ℕ, ap₂}
use Rattle.std.proofs.lemmas.Result.{IfOk-weaker}
use Rattle.visit_replay.specs.inside.FieldsNow.{pair_of}
use Rattle.visit_replay.proofs.ApartForms.{same_name, same_value}
use Rattle.visit_replay.proofs.told.are_same.Goals as goal

-- their names differ
pub returns-then-not-are_words_same-clause-apart : goal.returns-then-not-are_words_same-clause-apart
returns-then-not-are_words_same-clause-apart c = λ off same.
    c.are_words_same.ensures.apart c.if-not-are_words_same.true (same_name (pair_of c.args.was.now) (pair_of c.args.is.now) same)

pub returns-clause-same : goal.returns-clause-same
returns-clause-same c =
    IfOk-weaker c.are_values_same.result _ _
    (λ answer told on. ap₂ (λ (n v : List ℕ). (n, v)) (c.are_words_same.ensures.same c.if-not-are_words_same.false) (told on)) c.are_values_same.ensures.same

pub returns-clause-apart : goal.returns-clause-apart
returns-clause-apart c =
    IfOk-weaker c.are_values_same.result _ _
    (λ answer told off same. told off (same_value (pair_of c.args.was.now) (pair_of c.args.is.now) same)) c.are_values_same.ensures.apart
