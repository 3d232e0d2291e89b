-- This project's own limits on what one Lines reads.
use Rattle.std.specs.Prelude.{ℕ}

-- reads of one Lines
abbrev pub max_reads : ℕ
max_reads = 1048576

-- bytes that each read is offered
abbrev pub read_bytes : ℕ
read_bytes = 8192
