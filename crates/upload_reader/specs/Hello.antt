-- What the first line of an upload that isn't blank says: this project's own format, over RFC 8259. Unknown members are
-- ignored.
use Rattle.std.specs.Prelude.{ℕ, List, if◌then◌else◌, Result, Ok, Err, codes}
use Rattle.std.specs.Option.{ok_or}
use Rattle.std.specs.Result.{result_map_both}
use Rattle.std.specs.Str.{bytes_eq}
use Rattle.serde_json.specs.Data.{Data}
use Rattle.page_tree.specs.FirstFault.{◌>>=◌}
use Rattle.upload_reader.specs.Client.{is_client}
use Rattle.upload_reader.specs.Member.{text_in, json_said}
use Rattle.upload_reader.specs.declared.hello_fault.HelloFault.{HelloFault}
use Rattle.upload_reader.specs.declared.hello_fault.HelloFault.TheVariants.{BadClient, NoHello, Line, NoMemory}

-- `U1` where no client can have the name
abbrev pub client_said : List ℕ → Result (List ℕ) HelloFault
client_said text = if is_client text then Ok text else Err BadClient

-- by the members `t` and `client`; `U2` where it is no hello, and then `U1`
unfoldable pub greeting_said : Data → Result (List ℕ) HelloFault
greeting_said d = ok_or (text_in (codes "t") d) NoHello >>= λ kind.
    if bytes_eq kind (codes "hello") then ok_or (text_in (codes "client") d) BadClient >>= client_said else Err NoHello

-- The name that the line of that number says as a hello. A line that is no JSON text has that fault, with its number
-- (`U3`).
abbrev pub hello_said : ℕ → List ℕ → Result (List ℕ) HelloFault
hello_said number line = result_map_both (λ d. d) (Line number) (json_said line) >>= greeting_said

-- The codes of the faults; `U4`, want of memory, is no fault of a hello.
abbrev pub hello_fault_code : HelloFault → List ℕ
hello_fault_code BadClient = codes "U1"
hello_fault_code NoHello = codes "U2"
hello_fault_code (Line number fault) = codes "U3"
hello_fault_code NoMemory = codes "U4"
