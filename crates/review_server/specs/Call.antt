-- How the administrator's page may be called, and what is answered to another call: this project's own rule.
use Rattle.std.specs.Prelude.{ℕ, List, [], ◌∷◌, length, drop, ◌&&◌, if◌then◌else◌, nat_lt, nat_le, Bool, Option, Some, None, Result, codes, bytes_eq, option_map}
use Rattle.std.specs.Option.{ok_or}
use Rattle.std.specs.List.{list_all}
use Rattle.std.specs.Char.{is_ascii_digit}
use Rattle.std.specs.Str.Parse.{digits_value}
use Rattle.std.specs.declared.io.ErrorKind.{ErrorKind}
use Rattle.std.specs.declared.io.ErrorKind.TheVariants as error
use Rattle.review_server.specs.declared.call.Reviewing.{Reviewing}
use Rattle.review_server.specs.declared.call.ReviewCallFault.{ReviewCallFault}
use Rattle.review_server.specs.declared.call.ReviewCallFault.TheVariants.{Words, NoMemory}

-- ---- words

-- as many as the greatest port has
abbrev pub max_port_digits : ℕ
max_port_digits = 5

abbrev pub is_port : List ℕ → Bool
is_port word = nat_lt 0 (length word) && nat_le (length word) max_port_digits && list_all is_ascii_digit word

-- the port that the word writes, 1 to 65,535 (RFC 9293, section 3.1)
abbrev pub port_said : List ℕ → Option ℕ
port_said word = let n = digits_value 10 word in
    if is_port word && nat_le 1 n && nat_le n 65535 then Some n else None

-- the words behind `review`
abbrev pub reviewing_of : List (List ℕ) → Option Reviewing
reviewing_of (port ∷ site_file ∷ word ∷ words) =
    option_map (λ port. record { port = port; site_file = site_file; uploads = word ∷ words }) (port_said port)
reviewing_of words = None

-- the words behind the program's own name; any others are status 2
abbrev pub named_review : List (List ℕ) → Option Reviewing
named_review (word ∷ words) = if bytes_eq word (codes "review") then reviewing_of words else None
named_review [] = None

-- all its words
abbrev pub review_by_words : List (List ℕ) → Result Reviewing ReviewCallFault
review_by_words words = ok_or (named_review (drop 1 words)) Words

-- where its words can't be read
abbrev pub unread_words : ErrorKind → ReviewCallFault
unread_words error.OutOfMemory = NoMemory
unread_words kind = Words

-- ---- faults

abbrev pub words_exit_code : ReviewCallFault → ℕ
words_exit_code Words = 2
words_exit_code NoMemory = 5

-- the line on standard error
abbrev pub words_error_line : ReviewCallFault → List ℕ
words_error_line Words = codes "usage: warp_server review PORT SITEFILE UPLOADS.."
words_error_line NoMemory = codes "no memory"
