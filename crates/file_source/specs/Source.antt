-- A file that is read from its start: this project's own words.
use Rattle.std.specs.Prelude.{ℕ, List, length, drop, Bool, if◌then◌else◌, Option, Some, None}
use Rattle.byte_streams.specs.Answers.{Answer, bytes_of}

-- the file, and what the reads on it answered
pub record ReadFile (F : Type 0) : Type 0 where
  pub file : F
  pub answers : List Answer

-- `seen` is what a file gives to read, and `lost` tells that nothing is known of it.
module _ {F : Type 0} (seen : F → List ℕ) (lost : F → Bool) where
  -- What wasn't read of it yet, where that is known.
  abbrev pub unread_of : ReadFile F → Option (List ℕ)
  unread_of source =
      if lost source.file then None else Some (drop (length (bytes_of source.answers)) (seen source.file))
