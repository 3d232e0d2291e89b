-- What a Lines keeps of what was read, and what clauses see of the Window that it keeps.
use Rattle.std.specs.Prelude.{◌≡◌, ℕ, ◌*◌, ◌≤◌, List, length, find, Option, None}
use Rattle.byte_streams.specs.Answers.{Answer, moves_nothing, bytes_of, failures_of}
use Rattle.byte_streams.specs.Cutting.{StopsAtEnd}
use Rattle.byte_streams.specs.Limits.{max_reads, read_bytes}
use Rattle.byte_streams.specs.Reading.{failures_told}
use Rattle.byte_streams.specs.declared.fault.LineFault.{LineFault}

-- so many reads were made, and the fault is the one that they came to
pub record ReadsMade (answers : List Answer) (reads : ℕ) (fault : Option LineFault) : Type 0 where
  pub counted : reads ≡ length answers
  pub few : reads ≤ max_reads
  pub small : length (bytes_of answers) ≤ read_bytes * reads
  pub going : fault ≡ None → find moves_nothing answers ≡ None
  pub stops : StopsAtEnd answers
  pub failures : failures_of answers ≡ failures_told fault

pub record Shown : Type 0 where
  -- the last line that was cut
  pub line : List ℕ
  -- what came and isn't cut yet
  pub kept : List ℕ
  -- how many bytes can be added without an allocation
  pub room : ℕ
