-- The lines of an input, from its front.
use Rattle.std.proofs.Common.{◌≡◌, ℕ, zero, suc, ◌+◌, ◌-◌, ◌<◌, ◌≤◌, List, [], ◌∷◌, ◌++◌, length, take, drop, nat_lt, false, inl, inr, refl, sym, ◌∙◌, arith, length-append, length-take, length-drop}
use Rattle.std.specs.List.{slice_split}
use Rattle.std.proofs.Math.Nat.{eq-or-lt_of_le}
use Rattle.std.proofs.lemmas.Bool.{ltb-false}
use Rattle.std.proofs.lemmas.List.{take-append-le, drop-append-le}
use Rattle.std.proofs.lemmas.List.Sums.{fails_before_first}
use Rattle.std.proofs.lemmas.List.Splits.{slice_split_none, slice_split_first, length-slice_split}
use Rattle.byte_streams.specs.Cutting.{is_line_feed}
use Rattle.byte_streams.specs.CompleteLines.{complete_lines, unended_line}
use Rattle.byte_streams.proofs.Feeds.{before_feed, feed_within, still_before}

pub at_least : (a b : ℕ) → nat_lt a b ≡ false → b ≤ a
at_least a b above = ltb-false a b above

-- ---- the parts between line feeds

abbrev parts : List ℕ → List (List ℕ)
parts bytes = slice_split is_line_feed bytes

one_less : (x bytes : List ℕ) → length (x ∷ parts bytes) - 1 ≡ suc (length (parts bytes) - 1)
one_less x bytes = omega (arith, length-slice_split is_line_feed bytes)

-- with no line feed there is one part
one_part : (bytes : List ℕ) → before_feed bytes ≡ length bytes → parts bytes ≡ bytes ∷ []
one_part bytes none = slice_split_none is_line_feed bytes (λ k d below. fails_before_first is_line_feed bytes k d (omega (arith, none, below)))

-- ---- the first line

-- it stands before the first line feed
pub first_line : (bytes : List ℕ) → before_feed bytes < length bytes
    → complete_lines bytes ≡ take (before_feed bytes) bytes ∷ complete_lines (drop (before_feed bytes + 1) bytes)
unfolding complete_lines
first_line bytes inside =
    rw (slice_split_first is_line_feed bytes 0 inside, one_less (take (before_feed bytes) bytes) (drop (before_feed bytes + 1) bytes)) refl

-- what stands behind the last line feed stands behind this one
pub behind_first : (bytes : List ℕ) → before_feed bytes < length bytes → unended_line bytes ≡ unended_line (drop (before_feed bytes + 1) bytes)
unfolding unended_line
behind_first bytes inside =
    rw (slice_split_first is_line_feed bytes 0 inside, one_less (take (before_feed bytes) bytes) (drop (before_feed bytes + 1) bytes)) refl

-- with no line feed there is none, and all of it is unended
pub no_line : (bytes : List ℕ) → before_feed bytes ≡ length bytes → complete_lines bytes ≡ []
unfolding complete_lines
no_line bytes none = rw (one_part bytes none) refl

pub whole_unended : (bytes : List ℕ) → before_feed bytes ≡ length bytes → unended_line bytes ≡ bytes
unfolding unended_line
whole_unended bytes none = rw (one_part bytes none) refl

-- ---- one or the other

-- with no line all of it is unended
pub unended_all : (bytes : List ℕ) → complete_lines bytes ≡ [] → unended_line bytes ≡ bytes
unended_all bytes nothing =
    elim (eq-or-lt_of_le (feed_within bytes)) [
      | inl none ↦ whole_unended bytes none
      | inr inside ↦
          let one : [] ≡ take (before_feed bytes) bytes ∷ complete_lines (drop (before_feed bytes + 1) bytes) = sym nothing ∙ first_line bytes inside in cc
    ]

abbrev pub IsLong : ℕ → List (List ℕ) → Type 0
IsLong limit [] = Unit {0}
IsLong limit (line ∷ rest) = limit < length line

-- more bytes than the limit without a line feed: the first line is too long
pub long_line : (limit : ℕ) (bytes : List ℕ) → limit < before_feed bytes → IsLong limit (complete_lines bytes)
long_line limit bytes far =
    elim (eq-or-lt_of_le (feed_within bytes)) [
      | inl none ↦ rw (no_line bytes none) tt
      | inr inside ↦ rw (first_line bytes inside) (omega (arith, far, inside, length-take (before_feed bytes) bytes))
    ]

-- ---- a longer input

more_within : (fuel : ℕ) (bytes more : List ℕ) → length bytes ≤ fuel → (tail : List (List ℕ)) × (complete_lines (bytes ++ more) ≡ complete_lines bytes ++ tail)
more_within zero bytes more short = (complete_lines (bytes ++ more), rw (no_line bytes (omega (arith, short, feed_within bytes))) refl)
more_within (suc fuel) bytes more short =
    elim (eq-or-lt_of_le (feed_within bytes)) [
      | inl none ↦ (complete_lines (bytes ++ more), rw (no_line bytes none) refl)
      | inr inside ↦
          let n = before_feed bytes in
          let (tail, is) = more_within fuel (drop (n + 1) bytes) more (omega (arith, short, inside, length-drop (n + 1) bytes)) in
          let same = still_before bytes more inside in
          let longer = first_line (bytes ++ more) (omega (arith, same, inside, length-append bytes more)) in
          let front = take-append-le n bytes more (omega (arith, inside)) in
          let rest = drop-append-le (n + 1) bytes more (omega (arith, inside)) in
          (tail, rw (longer, same, front, rest, first_line bytes inside, is) refl)
    ]

-- its lines begin with those of the shorter one
pub complete_lines-more : (bytes more : List ℕ) → (tail : List (List ℕ)) × (complete_lines (bytes ++ more) ≡ complete_lines bytes ++ tail)
complete_lines-more bytes more = more_within (length bytes) bytes more (omega arith)
