-- Escapes in a JSON string, and the runs of bytes between them.
use Rattle.std.proofs.Common.{◌≡◌, ℕ, ◌+◌, ◌-◌, ◌<◌, ◌/◌, ◌%◌, List, [], ◌∷◌, ◌++◌, true, nat_lt, Some, None, position, length, take, drop, get_or, refl, ap, sym, ap₂, ◌∙◌, arith, append-nil, zero-add, drop-drop}
use Rattle.std.proofs.Math.Nat.{sub-zero}
use Rattle.std.specs.List.{prefix_len}
use Rattle.std.specs.Char.{digit_char}
use Rattle.std.proofs.lemmas.Bool.Decides.{nat_tests}
use Rattle.std.proofs.lemmas.Grind.{common_steps}
use Rattle.std.proofs.lemmas.List.Sums.{prefix_len-le-length}
use Rattle.std.proofs.lemmas.List.Quantifiers.{position-Some}
use Rattle.json.specs.Print.{escape, escape_byte, escape_letter}
use Rattle.json.specs.Run.{is_plain, is_stop}
use Rattle.json.proofs.Printed.Strings.{escape_to_stop, escape_at, escape_end}

found : (xs : List ℕ) (at : ℕ) → position is_stop xs ≡ Some at → (at ≡ prefix_len is_plain xs) × (at < length xs)
found xs at is = grind (arith, nat_tests)

none : (xs : List ℕ) → position is_stop xs ≡ None → prefix_len is_plain xs ≡ length xs
none xs is = grind (arith, nat_tests, prefix_len-le-length is_plain xs)

-- the run up to the first byte that is escaped, that byte, and what is behind it
pub run_escaped : (xs : List ℕ) (at : ℕ) → position is_stop xs ≡ Some at
    → take at xs ++ (escape_byte (get_or xs at 0) ++ escape (drop (at + 1) xs)) ≡ escape xs
run_escaped xs at is =
    let (stop, below) = found xs at is in
    let run = escape_to_stop xs 0 at [] (stop ∙ sym (zero-add (prefix_len is_plain xs))) in
    let byte = escape_at xs at [] below in
    sym (simp (append-nil, sub-zero) at (run ∙ ap (λ t. take (at - 0) xs ++ t) byte))

pub run_last : (xs : List ℕ) → position is_stop xs ≡ None → escape xs ≡ xs
run_last xs is =
    let whole : take (length xs) xs ≡ xs = grind (arith, common_steps) in
    let stop = sym (none xs is) ∙ sym (zero-add (prefix_len is_plain xs)) in
    simp (append-nil, sub-zero) at (escape_to_stop xs 0 (length xs) [] stop ∙ ap (λ t. take (length xs - 0) xs ++ t) (escape_end xs (length xs) [] (omega arith))) ∙ whole

pub letter_escape : (x letter : ℕ) → letter ≡ escape_letter x → (letter ≡ 0 → ⊥) → escape_byte x ≡ 92 ∷ letter ∷ []
unfolding escape_byte
letter_escape x letter is some = let more : nat_lt 0 (escape_letter x) ≡ true = grind (arith, nat_tests) in rw (more, is) refl

-- a byte without a letter is below 32
pub control_escape : (x high low : ℕ) → is_stop x ≡ true → escape_letter x ≡ 0 → high ≡ digit_char (x / 16) → low ≡ digit_char (x % 16)
    → escape_byte x ≡ 92 ∷ 117 ∷ 48 ∷ 48 ∷ high ∷ low ∷ []
unfolding escape_byte
control_escape x high low stop none is also =
    let small : nat_lt x 32 ≡ true = grind (arith, nat_tests) in rw (none, small, is, also) refl

first_behind : (xs behind : List ℕ) (at : ℕ) → behind ≡ drop at xs → get_or behind 0 0 ≡ get_or xs at 0
first_behind xs behind at last = rw last (grind (arith, common_steps))

pub stop_behind : (xs behind : List ℕ) (at : ℕ) → position is_stop xs ≡ Some at → behind ≡ drop at xs → is_stop (get_or behind 0 0) ≡ true
stop_behind xs behind at is last = ap is_stop (first_behind xs behind at last) ∙ (position-Some is_stop xs at 0 is).1

-- one run with the escape behind it, and the rest
pub run_behind : (xs run behind rest : List ℕ) (at : ℕ) → position is_stop xs ≡ Some at → run ≡ take at xs → behind ≡ drop at xs → rest ≡ drop 1 behind
    → run ++ (escape_byte (get_or behind 0 0) ++ escape rest) ≡ escape xs
run_behind xs run behind rest at is first last left =
    let others : rest ≡ drop (at + 1) xs = left ∙ ap (λ b. drop 1 b) last ∙ drop-drop 1 at xs in
    ap₂ (λ (r o : List ℕ). r ++ (escape_byte (get_or behind 0 0) ++ escape o)) first others
    ∙ ap (λ x. take at xs ++ (escape_byte x ++ escape (drop (at + 1) xs))) (first_behind xs behind at last)
    ∙ run_escaped xs at is
