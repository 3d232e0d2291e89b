-- This project's own limits on what is read, each with what hangs on it. The code has the same numbers in `limits`.
use Rattle.std.specs.Prelude.{ℕ}

-- the longest line of an upload, in bytes, without its line end; so a message's cost fits in 32 bits
abbrev pub max_line_bytes : ℕ
max_line_bytes = 65536

-- messages of a lane, without hello and bye; so their count fits in 32 bits
abbrev pub max_messages : ℕ
max_messages = 1000000

-- open visits of a client; a session keeps two numbers of each
abbrev pub max_open : ℕ
max_open = 256

-- events of a visit; so their count fits in 32 bits
abbrev pub max_events : ℕ
max_events = 10000

-- the greatest number in a message: 2 to the 53rd, less 1, the greatest that a browser's own numbers tell from the next
abbrev pub max_number : ℕ
max_number = 9007199254740991

-- the longest name of a client, in bytes; names are copied and compared whole
abbrev pub max_client_bytes : ℕ
max_client_bytes = 64
