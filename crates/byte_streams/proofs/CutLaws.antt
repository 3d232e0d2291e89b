-- The lines of an input, as one after another is cut from it.
use Rattle.std.proofs.Common.{◌≡◌, ℕ, ◌+◌, ◌<◌, ◌≤◌, List, [], ◌∷◌, ◌++◌, length, take, drop, Option, Some, None, Ok, refl, sym, ◌∙◌, ap, arith, length-drop, length-append}
use Rattle.std.proofs.lemmas.Grind.{common_steps}
use Rattle.std.proofs.lemmas.List.{drop-append-le, drop-drop, take-append-le}
use Rattle.byte_streams.specs.Cutting.{cut, line_length}
use Rattle.byte_streams.specs.CompleteLines.{complete_lines, unended_line}
use Rattle.byte_streams.specs.declared.fault.LineFault.{LineFault}
use Rattle.byte_streams.proofs.Feeds.{before_feed, line_ends, line_length_is, no_feed, far_feed, still_before, no_less_before}
use Rattle.byte_streams.proofs.Searching.{cut_line}
use Rattle.byte_streams.proofs.LineLaws.{IsLong, first_line, behind_first, no_line, whole_unended, long_line}

found_by : (limit : ℕ) (bytes line : List ℕ) (ending : Option LineFault) → cut limit bytes ending ≡ Some (Ok line)
    → (line_length limit bytes ≡ Some (length line)) × (line ≡ take (length line) bytes)
unfolding cut
found_by limit bytes line ending is = grind (arith, common_steps, line_length_is limit bytes, is)

-- a line that was cut is what stands before the first line feed there, however the input goes on, and no longer than the limit
cut_at : (limit place : ℕ) (input line more : List ℕ) (ending : Option LineFault) → cut limit (drop place input) ending ≡ Some (Ok line)
    → (before_feed (drop place (input ++ more)) ≡ length line) × (length line < length (drop place (input ++ more)))
    × (line ≡ take (length line) (drop place (input ++ more))) × (length line ≤ limit)
cut_at limit place input line more ending is =
    let bytes = drop place input in
    let (ends, same) = found_by limit bytes line ending is in
    let (at, inside, within) = line_ends limit (length line) bytes ends in
    rw (drop-append-le place input more (omega (arith, inside, length-drop place input))) (
      still_before bytes more (omega (arith, at, inside)) ∙ at,
      omega (arith, inside, length-append bytes more),
      same ∙ sym (take-append-le (length line) bytes more (omega (arith, inside))),
      within,
    )

behind : (place : ℕ) (line all : List ℕ) → drop (length line + 1) (drop place all) ≡ drop (place + length line + 1) all
behind place line all = drop-drop (length line + 1) place all ∙ ap (λ k. drop k all) (omega arith)

-- a line that was cut is no longer than the limit
pub cut_is_short : (limit place : ℕ) (input line : List ℕ) (ending : Option LineFault) → cut limit (drop place input) ending ≡ Some (Ok line) → length line ≤ limit
cut_is_short limit place input line ending is = (cut_at limit place input line [] ending is).3

-- The lines of an input from one place on: the line that was cut there, and those behind it, however the input goes on.
pub lines_from : (limit place : ℕ) (input line more : List ℕ) (ending : Option LineFault) → cut limit (drop place input) ending ≡ Some (Ok line)
    → complete_lines (drop place (input ++ more)) ≡ line ∷ complete_lines (drop (place + length line + 1) (input ++ more))
lines_from limit place input line more ending is =
    let (at, inside, same, short) = cut_at limit place input line more ending is in
    first_line (drop place (input ++ more)) (omega (arith, at, inside)) ∙ rw (at, ← same, behind place line (input ++ more)) refl

-- What stands behind its last line feed stands behind that line.
pub unended_from : (limit place : ℕ) (input line more : List ℕ) (ending : Option LineFault) → cut limit (drop place input) ending ≡ Some (Ok line)
    → unended_line (drop place (input ++ more)) ≡ unended_line (drop (place + length line + 1) (input ++ more))
unended_from limit place input line more ending is =
    let (at, inside, same, short) = cut_at limit place input line more ending is in
    behind_first (drop place (input ++ more)) (omega (arith, at, inside)) ∙ rw (at, behind place line (input ++ more)) refl

-- ---- what could not be cut

-- no line end within the limit, and more bytes: the first line is longer, however the input goes on
pub first_is_long : (limit place : ℕ) (input more : List ℕ) → line_length limit (drop place input) ≡ None → limit < length (drop place input) → IsLong limit (complete_lines (drop place (input ++ more)))
first_is_long limit place input more none long =
    rw (drop-append-le place input more (omega (arith, long, length-drop place input)))
    (long_line limit (drop place input ++ more) (omega (arith, far_feed limit (drop place input) none long, no_less_before (drop place input) more)))

-- no line end within the limit, and no more bytes: there is no line
pub no_lines : (limit : ℕ) (bytes : List ℕ) → line_length limit bytes ≡ None → length bytes ≤ limit → complete_lines bytes ≡ []
no_lines limit bytes none short = no_line bytes (no_feed limit bytes none short)

-- and all of them are unended
pub all_unended : (limit : ℕ) (bytes : List ℕ) → line_length limit bytes ≡ None → length bytes ≤ limit → unended_line bytes ≡ bytes
all_unended limit bytes none short = whole_unended bytes (no_feed limit bytes none short)

-- ---- a longer input

-- a line that was cut is cut of a longer input too, however that ends
pub cut_longer : (limit : ℕ) (bytes more line : List ℕ) (ending later : Option LineFault) → cut limit bytes ending ≡ Some (Ok line) → cut limit (bytes ++ more) later ≡ Some (Ok line)
cut_longer limit bytes more line ending later is =
    let (ends, same) = found_by limit bytes line ending is in
    let (at, inside, within) = line_ends limit (length line) bytes ends in
    let still : before_feed (bytes ++ more) ≡ length line = still_before bytes more (omega (arith, at, inside)) ∙ at in
    let again : line_length limit (bytes ++ more) ≡ Some (length line) =
    grind (arith, line_length_is limit (bytes ++ more), still, inside, within, length-append bytes more) in
    rw (cut_line limit (bytes ++ more) later (length line) again, take-append-le (length line) bytes more (omega (arith, inside)), ← same) refl
