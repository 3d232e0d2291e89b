-- How an upload begins: its hello is the first line that isn't blank. This project's own rule.
use Rattle.std.specs.Prelude.{ℕ, ◌+◌, List, length, take, if◌then◌else◌, Option, Some, None, option_map, Result, Err}
use Rattle.std.specs.Option.{option_map_or}
use Rattle.byte_streams.specs.CompleteLines.{complete_lines}
use Rattle.byte_streams.specs.declared.fault.LineFault.{LineFault}
use Rattle.upload_reader.specs.Front.{AreLinesTaken, bytes_of_lines}
use Rattle.upload_reader.specs.Hello.{hello_said}
use Rattle.upload_reader.specs.Limits.{max_line_bytes}
use Rattle.upload_reader.specs.Message.{is_blank}
use Rattle.upload_reader.specs.Stream.{kind_of}
use Rattle.upload_reader.specs.declared.hello_fault.HelloFault.{HelloFault}
use Rattle.upload_reader.specs.declared.hello_fault.HelloFault.TheVariants.{Line, NoMemory}

-- whose upload it is, or why it doesn't begin, and how many lines were taken up to that
pub record Greeting : Type 0 where
  pub lines : ℕ
  pub answer : Result (List ℕ) HelloFault

-- what a line says as a hello behind these; none where it is blank
unfoldable pub greeting_by : List (List ℕ) → List ℕ → Option Greeting
greeting_by before line = let number = length before + 1 in
    if is_blank line then None else Some (record { lines = number; answer = hello_said number line })

-- why there is no line behind these (`U3`)
abbrev pub no_greeting : List (List ℕ) → LineFault → Option Greeting
no_greeting before fault =
    option_map (λ kind. record { lines = length before; answer = Err (Line (length before + 1) kind) }) (kind_of fault)

-- How an upload begins whose bytes are these, which end so; none where the input may go on.
abbrev pub IsGreetingOf : List ℕ → Option LineFault → Option Greeting → Type 0
IsGreetingOf bytes ending greeting =
    (front : List (List ℕ)) × AreLinesTaken max_line_bytes greeting_by no_greeting bytes ending front greeting

-- how many bytes the first lines have, with their line ends
abbrev pub lines_length : ℕ → List ℕ → ℕ
lines_length n bytes = length (bytes_of_lines (take n (complete_lines bytes)))

-- why there is no next line, as a hello's fault; `U4` for want of memory
abbrev pub hello_fault_of : ℕ → LineFault → HelloFault
hello_fault_of number fault = option_map_or (Line number) (kind_of fault) NoMemory
