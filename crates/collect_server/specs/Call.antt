-- How the collector may be called, and what is answered to another call: this project's own rule.
use Rattle.std.specs.Prelude.{ℕ, ◌*◌, List, [], ◌∷◌, length, drop, ◌&&◌, ◌||◌, if◌then◌else◌, nat_eq, nat_lt, nat_le, not, Bool, Option, Some, None, Result, codes, bytes_eq}
use Rattle.std.specs.Option.{option_and_then, ok_or}
use Rattle.std.specs.List.{list_all, ends_with, starts_with}
use Rattle.std.specs.Char.{is_ascii_digit}
use Rattle.std.specs.Str.Parse.{digits_value}
use Rattle.std.specs.declared.io.ErrorKind.{ErrorKind}
use Rattle.std.specs.declared.io.ErrorKind.TheVariants as error
use Rattle.collect_server.specs.declared.call.Collecting.{Collecting}
use Rattle.collect_server.specs.declared.call.CollectFault.{CollectFault}
use Rattle.collect_server.specs.declared.call.CollectFault.TheVariants.{Words, NoMemory}

-- ---- words

-- as many as the greatest number has that a word may write, a port's
abbrev pub max_written_digits : ℕ
max_written_digits = 5

abbrev pub is_written_number : List ℕ → Bool
is_written_number word =
    nat_lt 0 (length word) && nat_le (length word) max_written_digits && list_all is_ascii_digit word

-- what the word writes, if it is a number from 1 to 65,535, as a port is (RFC 9293, section 3.1)
abbrev pub written_number : List ℕ → Option ℕ
written_number word = let n = digits_value 10 word in
    if is_written_number word && nat_le 1 n && nat_le n 65535 then Some n else None

-- a small letter or a digit, or one of `-.:[]_`
abbrev pub is_of_host : ℕ → Bool
is_of_host c = (nat_le 97 c && nat_le c 122) || (is_ascii_digit c || (nat_le 45 c && nat_le c 46))
    || (nat_eq c 58 || (nat_eq c 91 || (nat_eq c 93 || nat_eq c 95)))

-- with that scheme, and a host, but not with the port that the scheme has anyhow
abbrev pub is_origin_by : List ℕ → List ℕ → List ℕ → Bool
is_origin_by scheme port word = starts_with nat_eq word scheme && not (ends_with nat_eq word port)
    && nat_lt (length scheme) (length word) && list_all is_of_host (drop (length scheme) word)

-- the origin of a page, as a browser sends it (RFC 6454, section 6.2)
abbrev pub is_origin : List ℕ → Bool
is_origin word =
    is_origin_by (codes "http://") (codes ":80") word || is_origin_by (codes "https://") (codes ":443") word

abbrev pub mebibyte : ℕ
mebibyte = 1048576

-- where no word says how many mebibytes a client's file may have
abbrev pub usual_mebibytes : ℕ
usual_mebibytes = 64

abbrev pub collecting_at : ℕ → List ℕ → Option (List ℕ) → ℕ → Option Collecting
collecting_at port folder origin mebibytes =
    Some (record { port = port; folder = folder; origin = origin; limit = mebibytes * mebibyte })

-- the choices behind port and folder: an origin, and then a number of mebibytes
abbrev pub with_choices : ℕ → List ℕ → List (List ℕ) → Option Collecting
with_choices port folder [] = collecting_at port folder None usual_mebibytes
with_choices port folder (word ∷ []) =
    if is_origin word then collecting_at port folder (Some word) usual_mebibytes
    else option_and_then (collecting_at port folder None) (written_number word)
with_choices port folder (origin ∷ word ∷ []) =
    if is_origin origin then option_and_then (collecting_at port folder (Some origin)) (written_number word) else None
with_choices port folder words = None

-- the words behind `collect`
abbrev pub collecting_of : List (List ℕ) → Option Collecting
collecting_of (port ∷ folder ∷ choices) =
    option_and_then (λ port. with_choices port folder choices) (written_number port)
collecting_of words = None

-- the words behind the program's own name; any others are status 2
abbrev pub named_collect : List (List ℕ) → Option Collecting
named_collect (word ∷ words) = if bytes_eq word (codes "collect") then collecting_of words else None
named_collect [] = None

-- all its words
abbrev pub collect_by : List (List ℕ) → Result Collecting CollectFault
collect_by words = ok_or (named_collect (drop 1 words)) Words

-- where its words can't be read
abbrev pub unread_fault : ErrorKind → CollectFault
unread_fault error.OutOfMemory = NoMemory
unread_fault kind = Words

-- ---- faults

abbrev pub fault_exit_code : CollectFault → ℕ
fault_exit_code Words = 2
fault_exit_code NoMemory = 5

-- the line on standard error
abbrev pub fault_error_line : CollectFault → List ℕ
fault_error_line Words = codes "usage: warp_server collect PORT FOLDER [ORIGIN] [MEBIBYTES]"
fault_error_line NoMemory = codes "no memory"
