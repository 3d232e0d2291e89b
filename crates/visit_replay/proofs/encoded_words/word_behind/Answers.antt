use Rattle.std.proofs.Common.{length, sym, ap, ◌∙◌, arith}
use Rattle.form_urlencoded.specs.Form.{byte_serialize}
use Rattle.visit_replay.specs.inside.FieldsNow.{left_behind}
use Rattle.visit_replay.proofs.LeftBehind.{too_long, no_shorter, byte_met, byte_differs, word_met}
use Rattle.visit_replay.proofs.encoded_words.word_behind.Goals as goal

pub returns-then-text-word : goal.returns-then-text-word
returns-then-text-word c =
    sym (too_long (byte_serialize c.args.word.now) c.args.text.now (omega (arith, c.if-text-word.true, no_shorter c.args.word.now, ap (λ w. length w) c.as_bytes-word.ensures.value)))

pub returns-then-one-text : goal.returns-then-one-text
returns-then-one-text c =
    byte_differs c.as_bytes-word.result.now c.args.text.now c.loop-at.at c.written_as-one.result (c.written_as-one.ensures.one c.if-one-eq0.false) (omega (arith, c.loop-at-test.true)) (omega (arith, c.loop-at-test.true, c.if-text-word.false)) c.if-one-text.true
    ∙ c.loop-at.invariant ∙ ap (λ w. left_behind (byte_serialize w) c.args.text.now) c.as_bytes-word.ensures.value

pub loop-at-preserved : goal.loop-at-preserved
loop-at-preserved c =
    byte_met c.as_bytes-word.result.now c.args.text.now c.loop-at.at c.written_as-one.result (c.written_as-one.ensures.one c.if-one-eq0.false) (omega (arith, c.loop-at-test.true)) (omega (arith, c.loop-at-test.true, c.if-text-word.false)) c.if-one-text.false
    ∙ c.loop-at.invariant

pub returns : goal.returns
returns c =
    word_met c.as_bytes-word.result.now c.args.text.now c.loop-at.at (omega (arith, c.loop-at-test.false, c.loop-at.auto.at-end))
    ∙ c.loop-at.invariant ∙ ap (λ w. left_behind (byte_serialize w) c.args.text.now) c.as_bytes-word.ensures.value
