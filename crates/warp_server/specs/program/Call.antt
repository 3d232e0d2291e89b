-- How the program may be called, and what is answered to another call: this project's own rule.
use Rattle.std.specs.Prelude.{ℕ, List, [], ◌∷◌, ◌++◌, length, drop, ◌&&◌, if◌then◌else◌, nat_lt, nat_le, Bool, Option, Some, None, option_map, Result, Ok, Err, codes, bytes_eq}
use Rattle.std.specs.Option.{option_and_then, ok_or}
use Rattle.std.specs.List.{list_all}
use Rattle.std.specs.Char.{is_ascii_digit}
use Rattle.std.specs.Str.Parse.{digits_value}
use Rattle.std.specs.declared.io.ErrorKind.{ErrorKind}
use Rattle.std.specs.declared.io.ErrorKind.TheVariants as error
use Rattle.lanes_in_turn.specs.Round.{max_round_lanes, AreRoundLanes}
use Rattle.warp_run.specs.Status.{exit_code}
use Rattle.warp_server.specs.declared.program.call.Call.{Call}
use Rattle.warp_server.specs.declared.program.call.Call.TheVariants.{Run, Listen, Replay}
use Rattle.warp_server.specs.declared.program.call.Listening.{Listening}
use Rattle.warp_server.specs.declared.program.call.Replaying.{Replaying}
use Rattle.warp_server.specs.declared.program.call.CallFault.{CallFault}
use Rattle.warp_server.specs.declared.program.call.CallFault.TheVariants.{Words, NoMemory}
use Rattle.warp_run.specs.declared.status.Status.TheVariants.{OutOfMemory}

-- ---- numbers

-- a port has 16 bits (RFC 9293, section 3.1)
abbrev pub max_port : ℕ
max_port = 65535

-- how often lanes are taken anew; nothing else hangs on it
abbrev pub max_rounds : ℕ
max_rounds = 1000

-- as many as the greatest number has that a word may write, a port's
abbrev pub max_digits : ℕ
max_digits = 5

abbrev pub is_number : List ℕ → Bool
is_number word = nat_lt 0 (length word) && nat_le (length word) max_digits && list_all is_ascii_digit word

-- what the word writes, if it is a number within these limits
abbrev pub number_of_word : ℕ → ℕ → List ℕ → Option ℕ
number_of_word low high word =
    let n = digits_value 10 word in if is_number word && nat_le low n && nat_le n high then Some n else None

-- ---- words

-- one round where no word says how many
abbrev pub rounds_in : List (List ℕ) → Option ℕ
rounds_in [] = Some 1
rounds_in (word ∷ []) = number_of_word 1 max_rounds word
rounds_in words = None

-- the words behind `listen`
abbrev pub listening_of : List (List ℕ) → Option Listening
listening_of (port ∷ lanes ∷ site_file ∷ rounds) = option_and_then (λ port.
    option_and_then (λ lanes.
    option_map (λ rounds. record { port = port; lanes = lanes; rounds = rounds; site_file = site_file })
    (rounds_in rounds)) (number_of_word 1 max_round_lanes lanes)) (number_of_word 1 max_port port)
listening_of words = None

-- the words behind `replay`
abbrev pub replaying_of : List (List ℕ) → Option Replaying
replaying_of (site_file ∷ word ∷ words) = Some (record { site_file = site_file; uploads = word ∷ words })
replaying_of words = None

-- the words behind the program's own name; any others are status 2
abbrev pub named_call : List (List ℕ) → Result Call CallFault
named_call [] = Ok Run
named_call (word ∷ words) =
    if bytes_eq word (codes "listen") then ok_or (option_map Listen (listening_of words)) Words else
    (if bytes_eq word (codes "replay") then ok_or (option_map Replay (replaying_of words)) Words else Err Words)

-- all its words; its own name may be absent
abbrev pub call_by : List (List ℕ) → Result Call CallFault
call_by words = named_call (drop 1 words)

-- as many lanes as a round may have, where it listens
abbrev pub MayListen : Call → Type 0
MayListen Run = Unit {0}
MayListen (Listen listening_of) = AreRoundLanes listening_of.lanes
MayListen (Replay replaying_of) = Unit {0}

-- where its words can't be read
abbrev pub fault_of_kind : ErrorKind → CallFault
fault_of_kind error.OutOfMemory = NoMemory
fault_of_kind kind = Words

-- ---- faults

abbrev pub call_exit_code : CallFault → ℕ
call_exit_code Words = 2
call_exit_code NoMemory = exit_code OutOfMemory

-- the line on standard error
abbrev pub call_error_line : CallFault → List ℕ
call_error_line Words = codes "usage: warp_server [listen PORT LANES SITEFILE [ROUNDS]]"
    ++ (10 ∷ codes "       warp_server replay SITEFILE UPLOADS..")
call_error_line NoMemory = codes "no memory"
