-- What was read of a source, and how far it is cut into lines: what clauses see of a Lines, and what a call does to
-- one.
use Rattle.std.specs.Prelude.{◌≡◌, ℕ, ◌+◌, ◌*◌, ◌<◌, ◌≤◌, List, ◌++◌, length, take, drop, Option, Some, None, Result, Ok, Err, IsNone, IfSome, IfOk, IsErrOf, MatchResult}
use Rattle.std.specs.Borrow.{Bor}
use Rattle.std.specs.Io.KnownBytes.{Consumes}
use Rattle.byte_streams.specs.Answers.{Answer, bytes_of}
use Rattle.byte_streams.specs.Cutting.{cut, ending_of}
use Rattle.byte_streams.specs.Limits.{max_reads, read_bytes}
use Rattle.byte_streams.specs.declared.fault.LineFault.{LineFault}
use Rattle.byte_streams.specs.declared.fault.LineFault.TheVariants.{ReadFailed, NoMemory}

pub record Reading (R : Type 0) : Type 0 where
  -- the reader as the lines began
  pub first : R
  -- what the reads on it answered since
  pub answers : List Answer
  -- how many of the bytes that they gave are cut, line ends included
  pub place : ℕ
  -- the last line, without its line end
  pub line : List ℕ
  -- the fault that is given for good, where there was one
  pub fault : Option LineFault

-- all bytes that were read
abbrev pub input : {R : Type 0} → Reading R → List ℕ
input lines = bytes_of lines.answers

-- those that aren't cut yet
abbrev pub uncut_bytes : {R : Type 0} → Reading R → List ℕ
uncut_bytes lines = drop lines.place (input lines)

-- ---- reads

-- From one reader to the other: its answers go on with these, and where its bytes are known, these were the first of
-- them.
pub record WasRead {R : Type 0} (answers : R → List Answer) (remaining : R → Option (List ℕ)) (first now : R)
    (own : List Answer) : Type 0 where
  pub told : answers now ≡ answers first ++ own
  pub bytes : Consumes (remaining first) (remaining now) (bytes_of own)

-- each of the later reads was made where those before it left something undecided
abbrev pub MadeWhile : (List Answer → Type 0) → List Answer → List Answer → Type 0
MadeWhile Undecided earlier later = (n : ℕ) → length earlier ≤ n → n < length later → Undecided (take n later)

-- the same lines, read further, each read where those before it left something undecided
pub record ReadsWhile {R : Type 0} (Undecided : List Answer → Type 0) (old new : Reading R) : Type 0 where
  pub first : new.first ≡ old.first
  pub more : List Answer
  pub answers : new.answers ≡ old.answers ++ more
  pub needed : MadeWhile Undecided old.answers new.answers

-- how many reads failed, by the fault that is given for good
abbrev pub failures_told : Option LineFault → ℕ
failures_told (Some ReadFailed) = 1
failures_told fault = 0

-- ---- lines

-- from this place on, what was read decides nothing yet about the next line
abbrev pub NoLineYet : ℕ → ℕ → List Answer → Type 0
NoLineYet limit place answers = cut limit (drop place (bytes_of answers)) None ≡ None

-- The fault is what the bytes hold next; there is no memory only where they hold nothing yet.
abbrev pub StopsLine : LineFault → Option (Result (List ℕ) LineFault) → Type 0
StopsLine NoMemory next = next ≡ None
StopsLine fault next = next ≡ Some (Err fault)

-- The answer is what the bytes hold next, a line or a fault.
abbrev pub Tells : {A : Type 0} → Result A LineFault → List ℕ → Option (Result (List ℕ) LineFault) → Type 0
Tells result line next = MatchResult result (λ _. next ≡ Some (Ok line)) (λ fault. StopsLine fault next)

-- What a call for the next line does, of at most so many bytes.
pub record Advances {R A : Type 0} (limit : ℕ) (old new : Reading R) (result : Result A LineFault) : Type 0 where
  pub reads : ReadsWhile (NoLineYet limit old.place) old new
  pub tells : IsNone old.fault → Tells result new.line (cut limit (drop old.place (input new)) (ending_of new.answers))
  pub place : MatchResult result (λ _. new.place ≡ old.place + length new.line + 1) (λ _. new.place ≡ old.place)
  pub fault : MatchResult result (λ _. new.fault ≡ None) (λ fault. new.fault ≡ Some fault)
  pub again : IfSome old.fault (λ fault. IsErrOf result fault × (new ≡ old))
  pub bounded : new.place ≤ read_bytes * max_reads

-- What `next_line` does, by the time that the line is given back: the bytes that are given are the line, and the rest
-- is what `advance` ensures.
pub record GivesNext {R : Type 0} (limit : ℕ) (old new : Reading R) (result : Result (Bor (List ℕ)) LineFault)
    : Type 0 where
  pub value : IfOk result (λ line. line.now ≡ new.line)
  pub advances : Advances limit old new result
