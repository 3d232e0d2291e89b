-- What stands before a lane stays as the input goes on, up to the hello, and there is no other.
use Rattle.std.proofs.Common.{◌≡◌, ℕ, zero, suc, ◌+◌, ◌≤◌, List, [], ◌∷◌, ◌++◌, length, take, drop, Bool, true, false, if◌then◌else◌, nat_lt, Option, Some, None, Result, Ok, Err, refl, ◌∙◌, ap, arith, append_assoc, length-append}
use Rattle.std.specs.Prelude.{option_map, option_and_then}
use Rattle.std.specs.Option.{option_map_or}
use Rattle.std.proofs.lemmas.List.{take-append-le}
use Rattle.byte_streams.specs.CompleteLines.{complete_lines, unended_line}
use Rattle.byte_streams.specs.declared.fault.LineFault.{LineFault}
use Rattle.byte_streams.specs.declared.fault.LineFault.TheVariants.{LineTooLong}
use Rattle.byte_streams.proofs.LineLaws.{complete_lines-more}
use Rattle.upload_reader.specs.Front.{Passes, LinesEndBy, bytes_of_lines}
use Rattle.upload_reader.specs.Greeting.{Greeting, IsGreetingOf, greeting_by, no_greeting, lines_length}
use Rattle.upload_reader.specs.Hello.{hello_said}
use Rattle.upload_reader.specs.Limits.{max_line_bytes}
use Rattle.upload_reader.specs.Message.{is_blank}
use Rattle.upload_reader.specs.Stream.{StreamStart, Stream, IsSaid, line_end, stop_end, kind_of}
use Rattle.upload_reader.specs.declared.hello_fault.HelloFault.{HelloFault}
use Rattle.upload_reader.specs.declared.hello_fault.HelloFault.TheVariants.{Line}
use Rattle.upload_reader.specs.declared.lane_fault.LaneFault.{LaneFault}
use Rattle.upload_reader.specs.declared.lane_fault.LaneFault.TheVariants.{LineTooLong as TooLong}
use Rattle.upload_reader.proofs.FrontLaws.{taken_unique}

-- ---- greetings

abbrev pub greets : ℕ → Result (List ℕ) HelloFault → Option Greeting
greets lines said = Some (record { lines = lines; answer = said })

pub same_lines : (lines lines' : ℕ) (said said' : Result (List ℕ) HelloFault) → greets lines said ≡ greets lines' said' → lines ≡ lines'
same_lines lines lines' said said' is = ap (λ found. option_map_or (λ greeting. greeting.lines) found 0) is

pub same_said : (lines lines' : ℕ) (said said' : Result (List ℕ) HelloFault) → greets lines said ≡ greets lines' said' → said ≡ said'
same_said lines lines' said said' is = let same : Some said ≡ Some said' = ap (option_map (λ greeting. greeting.answer)) is in cc

-- ---- there is one

pub greeting_once : (bytes : List ℕ) (ending : Option LineFault) (greeting other : Option Greeting) → IsGreetingOf bytes ending greeting
    → IsGreetingOf bytes ending other → greeting ≡ other
greeting_once bytes ending greeting other (front, taken) (front', taken') =
    (taken_unique max_line_bytes greeting_by no_greeting bytes ending front front' greeting other taken taken').1

pub end_once : (lane : StreamStart) (bytes : List ℕ) (ending : Option LineFault) (stream other : Stream) → IsSaid lane bytes ending stream
    → IsSaid lane bytes ending other → stream.end ≡ other.end
end_once lane bytes ending stream other said said' =
    (taken_unique max_line_bytes (line_end lane) (stop_end lane) bytes ending said.front said'.front stream.end other.end said.taken said'.taken).1

-- ---- a hello

no_client : (lines lines' : ℕ) (client : List ℕ) (fault : LaneFault → HelloFault) (kind : Option LaneFault)
    → greets lines (Ok client) ≡ option_map (λ kind. record { lines = lines'; answer = Err (fault kind) }) kind → ⊥
no_client lines lines' client fault None is = cc
no_client lines lines' client fault (Some kind) is =
    let same : Ok client ≡ Err (fault kind) = same_said lines lines' (Ok client) (Err (fault kind)) is in cc

-- it is a line's
no_rest : (long : Bool) (lines : ℕ) (client : List ℕ) (front : List (List ℕ)) (ending : Option LineFault)
    → greets lines (Ok client) ≡ (if long then no_greeting front LineTooLong else option_and_then (no_greeting front) ending) → ⊥
no_rest true lines client front ending is = no_client lines (length front) client (Line (length front + 1)) (kind_of LineTooLong) is
no_rest false lines client front None is = cc
no_rest false lines client front (Some fault) is = no_client lines (length front) client (Line (length front + 1)) (kind_of fault) is

-- the last one that was taken
counted : (long blank : Bool) (lines before : ℕ) (client : List ℕ) (fault : HelloFault) (said : Result (List ℕ) HelloFault)
    → greets lines (Ok client) ≡ (if long then greets before (Err fault) else (if blank then None else greets (before + 1) said)) → lines ≡ before + 1
counted true blank lines before client fault said is = let same : Ok client ≡ Err fault = same_said lines before (Ok client) (Err fault) is in cc
counted false true lines before client fault said is = cc
counted false false lines before client fault said is = same_lines lines (before + 1) (Ok client) said is

-- the first lines of an input are those of a longer one
first_lines : (n : ℕ) (bytes more : List ℕ) → n ≤ length (complete_lines bytes) → lines_length n (bytes ++ more) ≡ lines_length n bytes
first_lines n bytes more few =
    let (tail, grown) = complete_lines-more bytes more in
    ap (λ lines. length (bytes_of_lines lines)) (ap (take n) grown ∙ take-append-le n (complete_lines bytes) tail few)

abbrev Stays : List ℕ → List ℕ → Option LineFault → ℕ → List ℕ → Type 0
Stays bytes more ending lines client =
    IsGreetingOf (bytes ++ more) ending (greets lines (Ok client)) × (lines_length lines (bytes ++ more) ≡ lines_length lines bytes)

stays_by : (bytes more : List ℕ) (ending ending' : Option LineFault) (lines : ℕ) (client : List ℕ) (front rest : List (List ℕ))
    → complete_lines bytes ≡ front ++ rest → Passes max_line_bytes greeting_by no_greeting front
    → LinesEndBy max_line_bytes greeting_by no_greeting front rest (unended_line bytes) ending (greets lines (Ok client)) → Stays bytes more ending' lines client
unfolding greeting_by
stays_by bytes more ending ending' lines client front [] split passes by =
    absurd (no_rest (nat_lt max_line_bytes (length (unended_line bytes))) lines client front ending by)
stays_by bytes more ending ending' lines client front (line ∷ rest) split passes by =
    let (tail, grown) = complete_lines-more bytes more in
    let before = length front in
    let count : lines ≡ before + 1 =
    counted (nat_lt max_line_bytes (length line)) (is_blank line) lines before client (Line (before + 1) TooLong) (hello_said (before + 1) line) by.0 in
    let size = ap length split ∙ length-append front (line ∷ rest) in (
      (
        front,
        record {
          lines = line ∷ (rest ++ tail);
          split = grown ∙ ap (λ lines. lines ++ tail) split ∙ append_assoc front (line ∷ rest) tail;
          passes = passes;
          ends_by = by;
        },
      ),
      first_lines lines bytes more (omega (arith, count, size)),
    )

-- A hello that was read is that of any longer input, and so are the lines up to it.
hello_stays : (bytes more : List ℕ) (ending ending' : Option LineFault) (lines : ℕ) (client : List ℕ)
    → IsGreetingOf bytes ending (greets lines (Ok client)) → Stays bytes more ending' lines client
hello_stays bytes more ending ending' lines client (front, taken) =
    stays_by bytes more ending ending' lines client front taken.lines taken.split taken.passes taken.ends_by

-- ---- behind the site line

drop_both : (n : ℕ) (xs ys : List ℕ) → (more : List ℕ) × (drop n (xs ++ ys) ≡ drop n xs ++ more)
drop_both zero xs ys = (ys, refl)
drop_both (suc n) [] ys = (drop (suc n) ys, refl)
drop_both (suc n) (x ∷ xs) ys = drop_both n xs ys

-- how many bytes stand before the lane
abbrev pub lane_place : List ℕ → ℕ → List ℕ → ℕ
lane_place line lines input = length line + 1 + lines_length lines (drop (length line + 1) input)

pub opens_stays : (input more : List ℕ) (ending ending' : Option LineFault) (line : List ℕ) (lines : ℕ) (client : List ℕ)
    → IsGreetingOf (drop (length line + 1) input) ending (greets lines (Ok client))
    → IsGreetingOf (drop (length line + 1) (input ++ more)) ending' (greets lines (Ok client)) × (lane_place line lines (input ++ more) ≡ lane_place line lines input)
opens_stays input more ending ending' line lines client begins =
    let (later, same) = drop_both (length line + 1) input more in
    let (still, place) = hello_stays (drop (length line + 1) input) later ending ending' lines client begins in
    (rw same still, ap (λ n. length line + 1 + n) (ap (lines_length lines) same ∙ place))
