-- What the reader of JSON texts says of a line, as a function.
use Rattle.std.proofs.Common.{◌≡◌, List, ℕ, Bool, true, false, if◌then◌else◌, Option, Some, None, Ok, Err, refl}
use Rattle.std.specs.Str.{IsUtf8, is_utf8}
use Rattle.std.proofs.lemmas.Str.{IsUtf8-from_is_utf8, is_utf8-from_IsUtf8}
use Rattle.serde_json.specs.Data.{Data}
use Rattle.serde_json.specs.Read.{read}
use Rattle.upload_reader.specs.Member.{json_said}
use Rattle.upload_reader.specs.declared.lane_fault.LaneFault.TheVariants.{NotJson}

pub json_read : (line : List ℕ) (d : Data) → IsUtf8 line → read line ≡ Some d → json_said line ≡ Ok d
unfolding json_said
json_read line d utf8 is = rw (is_utf8-from_IsUtf8 line utf8, is) refl

none_if : (test : Bool) (o : Option Data) → (test ≡ true → o ≡ None) → (if test then o else None) ≡ None
none_if true o none = none refl
none_if false o none = refl

pub json_refused : (line : List ℕ) → (IsUtf8 line → read line ≡ None) → json_said line ≡ Err NotJson
unfolding json_said
json_refused line none = rw (none_if (is_utf8 line) (read line) (λ utf8. none (IsUtf8-from_is_utf8 line utf8))) refl
