-- Where the first line feed stands, and so how long the next line is.
use Rattle.std.proofs.Common.{◌≡◌, ℕ, ◌+◌, ◌-◌, ◌<◌, ◌≤◌, min, List, ◌++◌, length, take, drop, cond, not, nat_lt, position, Option, Some, None, ap, arith, length-take, length-drop}
use Rattle.std.specs.List.{position_or_len}
use Rattle.std.proofs.lemmas.List.{take-append-drop, take_all}
use Rattle.std.proofs.lemmas.List.Folds.{prefix_len-append}
use Rattle.std.proofs.lemmas.List.Sums.{prefix_len-le-length, position_or_len_is}
use Rattle.std.proofs.lemmas.Bool.{false_from_ne_true}
use Rattle.memchr.specs.Find.{IsFirstByte}
use Rattle.byte_streams.specs.Cutting.{line_length, is_line_feed}

-- how many bytes stand before the first line feed
abbrev pub before_feed : List ℕ → ℕ
before_feed bytes = position_or_len is_line_feed bytes

pub feed_within : (bytes : List ℕ) → before_feed bytes ≤ length bytes
feed_within bytes = prefix_len-le-length (λ b. not (is_line_feed b)) bytes

before_feed-append : (front rest : List ℕ) → before_feed (front ++ rest) ≡ cond (nat_lt (before_feed front) (length front)) (before_feed front) (length front + before_feed rest)
before_feed-append front rest = grind (arith, prefix_len-append (λ b. not (is_line_feed b)) front rest, feed_within front)

before_feed-take : (n : ℕ) (bytes : List ℕ) → before_feed (take n bytes) ≡ min n (before_feed bytes)
before_feed-take n bytes =
    let whole : before_feed (take n bytes ++ drop n bytes) ≡ before_feed bytes = ap before_feed (take-append-drop n bytes) in
    grind (arith, whole, before_feed-append (take n bytes) (drop n bytes), length-take n bytes, feed_within (take n bytes), feed_within bytes)

-- more bytes behind them move it only where there was none
pub still_before : (bytes more : List ℕ) → before_feed bytes < length bytes → before_feed (bytes ++ more) ≡ before_feed bytes
still_before bytes more inside = grind (arith, before_feed-append bytes more)

pub no_less_before : (bytes more : List ℕ) → before_feed bytes ≤ before_feed (bytes ++ more)
no_less_before bytes more = grind (arith, before_feed-append bytes more, feed_within bytes)

-- a search that goes on where an earlier one found none
pub before_feed-drop : (from : ℕ) (bytes : List ℕ) → from ≤ before_feed bytes → before_feed bytes ≡ from + before_feed (drop from bytes)
before_feed-drop from bytes none =
    let whole : before_feed (take from bytes ++ drop from bytes) ≡ before_feed bytes = ap before_feed (take-append-drop from bytes) in
    grind (arith, whole, before_feed-append (take from bytes) (drop from bytes), before_feed-take from bytes, length-take from bytes, feed_within bytes)

-- the next line ends there, within the limit
pub line_length_is : (limit : ℕ) (bytes : List ℕ) → line_length limit bytes ≡ cond (nat_lt (before_feed bytes) (min (limit + 1) (length bytes))) (Some (before_feed bytes)) None
unfolding line_length
line_length_is limit bytes = grind (arith, before_feed-take (limit + 1) bytes, length-take (limit + 1) bytes)

pub line_ends : (limit n : ℕ) (bytes : List ℕ) → line_length limit bytes ≡ Some n → (before_feed bytes ≡ n) × (n < length bytes) × (n ≤ limit)
line_ends limit n bytes ends = grind (arith, line_length_is limit bytes)

pub no_feed : (limit : ℕ) (bytes : List ℕ) → line_length limit bytes ≡ None → length bytes ≤ limit → before_feed bytes ≡ length bytes
no_feed limit bytes none short = grind (arith, line_length_is limit bytes, feed_within bytes)

pub far_feed : (limit : ℕ) (bytes : List ℕ) → line_length limit bytes ≡ None → limit < length bytes → limit < before_feed bytes
far_feed limit bytes none long = grind (arith, line_length_is limit bytes)

first_feed : (bytes : List ℕ) (found : Option ℕ) → IsFirstByte is_line_feed bytes found → found ≡ position is_line_feed bytes
first_feed bytes None nowhere =
    let all : before_feed bytes ≡ length bytes = position_or_len_is is_line_feed bytes (length bytes) 0 (omega arith) (λ k below. false_from_ne_true _ (nowhere k (omega arith) below)) (λ below. absurd (omega (arith, below))) in
    grind (arith, all)
first_feed bytes (Some n) (first, passes) =
    let here : before_feed bytes ≡ n = position_or_len_is is_line_feed bytes n 0 (omega (arith, first.high)) (λ k below. false_from_ne_true _ (first.before k (omega arith) below)) (λ _. passes) in
    grind (arith, here, first.high)

-- a search behind the first bytes, which hold none, finds it
pub found_behind : (from : ℕ) (bytes : List ℕ) (found : Option ℕ) → from ≤ before_feed bytes → IsFirstByte is_line_feed (take (length bytes - from) (drop from bytes)) found
    → found ≡ cond (nat_lt (before_feed bytes) (length bytes)) (Some (before_feed bytes - from)) None
found_behind from bytes found none searched =
    let rest : take (length bytes - from) (drop from bytes) ≡ drop from bytes = take_all (length bytes - from) (drop from bytes) (omega (arith, length-drop from bytes)) in
    grind (arith, first_feed (drop from bytes) found (rw rest at searched), before_feed-drop from bytes none, length-drop from bytes, feed_within bytes)
