-- Lines that are passed, and the call for the next one that isn't blank.
use Rattle.std.specs.Prelude.{◌≡◌, ℕ, ◌+◌, List, ◌++◌, length, drop, true, false, Option, Result, Ok, OnOk}
use Rattle.byte_streams.specs.CompleteLines.{complete_lines, unended_line}
use Rattle.byte_streams.specs.Reading.{Reading, Advances}
use Rattle.byte_streams.specs.declared.fault.LineFault.{LineFault}
use Rattle.upload_reader.specs.Front.{Passes, bytes_of_lines}
use Rattle.upload_reader.specs.Limits.{max_line_bytes}
use Rattle.upload_reader.specs.Message.{is_blank}

-- From one place to another stand just these lines, however the input goes on, and none of them ends it.
pub record PassedBetween {E : Type 0} (limit : ℕ) (judge : List (List ℕ) → List ℕ → Option E)
    (stop : List (List ℕ) → LineFault → Option E) (input : List ℕ) (from to : ℕ) (front : List (List ℕ)) : Type 0 where
  pub complete : (more : List ℕ)
      → complete_lines (drop from (input ++ more)) ≡ front ++ complete_lines (drop to (input ++ more))
  pub rest : (more : List ℕ) → unended_line (drop from (input ++ more)) ≡ unended_line (drop to (input ++ more))
  pub bytes : to ≡ from + length (bytes_of_lines front)
  pub passes : Passes limit judge stop front

-- Behind so many lines, blank ones were cut, and then a line of that number that isn't blank, or there is none.
pub data NextText {R : Type 0} (new : Reading R) (number : ℕ) (result : Result (Unit {0}) LineFault)
    : ℕ → Reading R → Type 0 where
  last : {before : ℕ} {old : Reading R} → number ≡ before + 1 → Advances max_line_bytes old new result
      → OnOk result (is_blank new.line ≡ false) → NextText new number result before old
  blank : {before : ℕ} {old now : Reading R} → Advances {A = Unit {0}} max_line_bytes old now (Ok tt)
      → is_blank now.line ≡ true → NextText new number result (before + 1) now → NextText new number result before old
