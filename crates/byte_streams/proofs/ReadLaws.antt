-- What one read more does to the answers, and to the bytes that are kept.
use Rattle.std.proofs.Common.{◌≡◌, ℕ, ◌+◌, ◌-◌, ◌<◌, ◌≤◌, List, [], ◌∷◌, ◌++◌, length, take, drop, true, false, if◌then◌else◌, find, Some, None, is_none, refl, ap, arith, length-append}
use Rattle.std.specs.List.{copy_within}
use Rattle.std.proofs.lemmas.List.Edits.{take-paste}
use Rattle.std.proofs.lemmas.Grind.{common_steps}
use Rattle.std.proofs.lemmas.List.Folds.{find-append}
use Rattle.byte_streams.specs.Answers.{Answer, moves_nothing, bytes_of}
use Rattle.byte_streams.specs.Cutting.{ending_of, StopsAtEnd}
use Rattle.byte_streams.specs.declared.fault.LineFault.TheVariants.{ReadFailed, Truncated}
use Rattle.std.proofs.lemmas.Bool.Decides.{nat_tests}
use Rattle.byte_streams.specs.inside.{ReadsMade}
use Rattle.byte_streams.proofs.ReadingLaws.{made_one, made_then}

-- ---- the answers

-- an answer with bytes moves something
pub moves_some : (bytes : List ℕ) → 0 < length bytes → moves_nothing (Some bytes) ≡ false
moves_some bytes h = grind (arith, nat_tests)

pub bytes_more : (answers : List Answer) (bytes : List ℕ) → bytes_of (answers ++ Some bytes ∷ []) ≡ bytes_of answers ++ bytes
bytes_more answers bytes = grind (arith, common_steps)

-- the input ends with the first read that gave nothing
pub ended : (answers : List Answer) (answer : Answer) → find moves_nothing answers ≡ None → moves_nothing answer ≡ true
    → ending_of (answers ++ answer ∷ []) ≡ Some (if is_none answer then ReadFailed else Truncated)
ended answers answer going nothing = grind (arith, find-append moves_nothing answers (answer ∷ []), going, nothing)

abbrev Goes : List Answer → Type 0
Goes answers = ending_of answers ≡ None

stops_more : (answers : List Answer) (answer : Answer) → StopsAtEnd answers → Goes answers → StopsAtEnd (answers ++ answer ∷ [])
stops_more answers answer stops none n below =
    made_then Goes Goes [] answers (answers ++ answer ∷ []) (answer ∷ []) refl (λ rest goes. goes) (λ k low. stops k) (made_one Goes answers answer none) n (omega arith) below

pub none_made : ReadsMade [] 0 None
none_made = record { counted = refl; few = omega arith; small = omega arith; going = λ none. refl; stops = λ n below. absurd (omega (arith, below)); failures = refl }

-- one read more, that gave bytes
pub made_more : (answers : List Answer) (bytes : List ℕ) (reads : ℕ) → ReadsMade answers reads None → reads < 1048576 → 0 < length bytes → length bytes ≤ 8192 → ReadsMade (answers ++ Some bytes ∷ []) (reads + 1) None
made_more answers bytes reads made few some short = record {
  counted = omega (arith, made.counted, length-append answers (Some bytes ∷ []));
  few = omega (arith, few);
  small = omega (arith, made.small, short, ap length (bytes_more answers bytes), length-append (bytes_of answers) bytes);
  going = λ none. grind (arith, made.going refl, find-append moves_nothing answers (Some bytes ∷ []), moves_some bytes some);
  stops = stops_more answers (Some bytes) made.stops (grind (arith, made.going refl, few, made.counted));
  failures = grind (arith, common_steps, made.failures);
}

-- ---- the bytes that are kept

-- what is kept stays the end of the input, when both grow by the same bytes
pub tail_more : (all tail more : List ℕ) → drop (length all - length tail) all ≡ tail
    → drop (length (all ++ more) - length (tail ++ more)) (all ++ more) ≡ tail ++ more
tail_more all tail more is = grind (arith, common_steps)

-- a list moved to its own front, cut to what was moved, is its end
pub moved_front : (bytes : List ℕ) (count whole n : ℕ) → whole ≡ length bytes → n ≡ whole - count → count ≤ whole → take n (copy_within bytes count whole 0) ≡ drop count bytes
moved_front bytes count whole n all is within = rw is (grind (arith, common_steps, take-paste bytes 0 (drop count bytes) (whole - count)))
