use Rattle.std.proofs.Common.{◌≡◌, drop}
use Rattle.form_urlencoded.specs.Form.{byte_serialize}
use Rattle.visit_replay.specs.inside.FieldsNow.{left_behind}
use Rattle.visit_replay.proofs.encoded_words.word_behind.Given as goal

abbrev pub invariant-loop-at : goal.invariant-loop-at
invariant-loop-at l = left_behind (byte_serialize (drop l.at l.word)) (drop l.at l.text) ≡ left_behind (byte_serialize l.word) l.text
