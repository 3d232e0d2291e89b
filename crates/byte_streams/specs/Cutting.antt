-- How a stream of bytes is cut into lines: this project's own rule. The reads by which the bytes came don't occur in
-- it.
use Rattle.std.specs.Prelude.{◌≡◌, ℕ, ◌+◌, ◌<◌, List, length, take, Bool, ◌==◌, if◌then◌else◌, nat_lt, nat_le, position, find, option_map, is_none, Option, Some, None, Result, Ok, Err}
use Rattle.std.specs.Option.{option_map_or}
use Rattle.byte_streams.specs.Answers.{Answer, moves_nothing}
use Rattle.byte_streams.specs.Limits.{max_reads}
use Rattle.byte_streams.specs.declared.fault.LineFault.{LineFault}
use Rattle.byte_streams.specs.declared.fault.LineFault.TheVariants.{ReadFailed, TooManyReads, Truncated, LineTooLong}

abbrev pub is_line_feed : ℕ → Bool
is_line_feed byte = byte == 10

-- How long the next line is, where the bytes hold its end: a line feed within the limit and one byte more.
unfoldable pub line_length : ℕ → List ℕ → Option ℕ
line_length limit bytes = position is_line_feed (take (limit + 1) bytes)

abbrev pub cut_by : Option ℕ → ℕ → List ℕ → Option LineFault → Option (Result (List ℕ) LineFault)
cut_by (Some n) limit bytes ending = Some (Ok (take n bytes))
cut_by None limit bytes ending = if nat_lt limit (length bytes) then Some (Err LineTooLong) else option_map Err ending

-- The next line of these bytes, which end so: the bytes up to a line feed within the limit and one byte more. Else a
-- fault: the line is too long (E4) where there are more bytes than the limit, and otherwise the ending. With no ending
-- there is no answer yet.
unfoldable pub cut : ℕ → List ℕ → Option LineFault → Option (Result (List ℕ) LineFault)
cut limit bytes ending = cut_by (line_length limit bytes) limit bytes ending

-- How the input of these reads ends: with the first one that failed (E1) or gave nothing (E3), else with the last one
-- that may be made (E2), else not yet.
abbrev pub ending_of : List Answer → Option LineFault
ending_of answers =
    option_map_or (λ answer. Some (if is_none answer then ReadFailed else Truncated)) (find moves_nothing answers)
    (if nat_le max_reads (length answers) then Some TooManyReads else None)

-- No read was made once the input had ended.
abbrev pub StopsAtEnd : List Answer → Type 0
StopsAtEnd answers = (n : ℕ) → n < length answers → ending_of (take n answers) ≡ None
