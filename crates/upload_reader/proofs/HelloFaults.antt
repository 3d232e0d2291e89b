-- What is told of a hello's line, and of a fault in its place.
use Rattle.std.proofs.Common.{◌≡◌, ◌≢◌, ℕ, List, Bool, true, false, if◌then◌else◌, Option, Some, None, Result, Ok, Err, refl, codes}
use Rattle.std.specs.Option.{ok_or}
use Rattle.std.specs.Result.{IfErr, result_map_both}
use Rattle.std.specs.Str.{bytes_eq, is_utf8}
use Rattle.serde_json.specs.Data.{Data}
use Rattle.serde_json.specs.Read.{read}
use Rattle.page_tree.specs.FirstFault.{◌>>=◌}
use Rattle.byte_streams.specs.declared.fault.LineFault.{LineFault}
use Rattle.byte_streams.specs.declared.fault.LineFault.TheVariants as line
use Rattle.upload_reader.specs.Client.{is_client}
use Rattle.upload_reader.specs.Greeting.{hello_fault_of}
use Rattle.upload_reader.specs.Hello.{client_said, greeting_said, hello_said}
use Rattle.upload_reader.specs.Member.{text_in, json_said}
use Rattle.upload_reader.specs.declared.hello_fault.HelloFault.{HelloFault}
use Rattle.upload_reader.specs.declared.hello_fault.HelloFault.TheVariants.{BadClient, NoHello, Line, NoMemory}
use Rattle.upload_reader.specs.declared.lane_fault.LaneFault.TheVariants.{ReadFailed, TooManyReads, Truncated, LineTooLong, NotJson}

-- the fault in the place of a line that is told so, and want of memory where none is
abbrev pub line_of : HelloFault → LineFault
line_of (Line at ReadFailed) = line.ReadFailed
line_of (Line at TooManyReads) = line.TooManyReads
line_of (Line at Truncated) = line.Truncated
line_of (Line at LineTooLong) = line.LineTooLong
line_of fault = line.NoMemory

pub line_of_told : (at : ℕ) (had : LineFault) → line_of (hello_fault_of at had) ≡ had
line_of_told at line.NoMemory = refl
line_of_told at had = refl

-- ---- a hello's line tells of none

abbrev Calm : Result (List ℕ) HelloFault → Type 0
Calm result = IfErr result (λ fault. line_of fault ≡ line.NoMemory)

either : (test : Bool) (r s : Result (List ℕ) HelloFault) → Calm r → Calm s → Calm (if test then r else s)
either true r s first second = first
either false r s first second = second

by_text : (o : Option (List ℕ)) (fault : HelloFault) (f : List ℕ → Result (List ℕ) HelloFault) → line_of fault ≡ line.NoMemory → ((text : List ℕ) → Calm (f text)) → Calm (ok_or o fault >>= f)
by_text None fault f calm rest = calm
by_text (Some text) fault f calm rest = rest text

by_json : (number : ℕ) (o : Option Data) → Calm (result_map_both (λ d. d) (Line number) (ok_or o NotJson) >>= greeting_said)
unfolding greeting_said
by_json number None = refl
by_json number (Some d) = by_text (text_in (codes "t") d) NoHello _ refl (λ kind. either (bytes_eq kind (codes "hello")) _ (Err NoHello)
    (by_text (text_in (codes "client") d) BadClient client_said refl (λ text. either (is_client text) (Ok text) (Err BadClient) tt refl)) refl)

hello_calm : (number : ℕ) (text : List ℕ) → Calm (hello_said number text)
unfolding json_said
hello_calm number text = by_json number (if is_utf8 text then read text else None)

pub none_told : (number : ℕ) (text : List ℕ) (fault : HelloFault) → (fault ≢ NoMemory → hello_said number text ≡ Err fault) → line_of fault ≡ line.NoMemory
none_told number text NoMemory says = refl
none_told number text fault says = rw (says (λ e. cc)) at (hello_calm number text)
