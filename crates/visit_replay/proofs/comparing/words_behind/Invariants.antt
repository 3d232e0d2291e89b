use Rattle.std.proofs.Common.{◌≡◌, length}
use Rattle.std.specs.List.{flat_map}
use Rattle.form_urlencoded.specs.Form.{byte_serialize}
use Rattle.visit_replay.specs.inside.FieldsNow.{left_behind}
use Rattle.visit_replay.proofs.comparing.words_behind.Given as goal

abbrev pub invariant-loop-word : goal.invariant-loop-word
invariant-loop-word l = left_behind (byte_serialize (flat_map (λ w. w) l.words)) l.rest ≡ left_behind (byte_serialize (flat_map (λ w. w) l.initial.words)) l.text

abbrev pub decreases-loop-word : goal.decreases-loop-word
decreases-loop-word l = length l.words
