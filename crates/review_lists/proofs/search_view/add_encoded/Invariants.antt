use Rattle.std.proofs.Common.{◌≡◌, ◌++◌}
use Rattle.std.specs.String.{string_bytes}
use Rattle.form_urlencoded.specs.Form.{byte_serialize}
use Rattle.form_urlencoded.specs.Serialize.{serialized_text}
use Rattle.review_lists.proofs.search_view.add_encoded.Given as goal

abbrev pub invariant-loop-piece : goal.invariant-loop-piece
invariant-loop-piece l =
    string_bytes l.address ++ serialized_text l.piece-iterator ≡ string_bytes l.initial.address ++ byte_serialize l.text
