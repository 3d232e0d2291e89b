-- What two texts begin with alike and end with alike, in whole words: this project's own rule.
use Rattle.std.specs.Prelude.{◌≡◌, ℕ, ◌-◌, ◌<◌, ◌≤◌, ◌==◌, ◌||◌, ◌&&◌, nat_eq, nat_le, List, length, reverse, slice_index, Bool, true, false}
use Rattle.std.specs.List.{common_prefix_len}

-- ---- words

-- a space, the end of a line, or a tab
abbrev pub parts_words : ℕ → Bool
parts_words c = c == 32 || c == 10 || c == 13 || c == 9

-- no word is cut there: the text begins or ends at that place, or a blank stands before it or behind it
unfoldable pub is_edge : List ℕ → ℕ → Bool
is_edge text place = place == 0 || nat_le (length text) place
    || parts_words (slice_index text (place - 1)) || parts_words (slice_index text place)

-- ---- what is the same

-- how many bytes the texts begin with alike
abbrev pub common_front : List ℕ → List ℕ → ℕ
common_front old new = common_prefix_len nat_eq old new

-- how many bytes they end with alike
abbrev pub common_end : List ℕ → List ℕ → ℕ
common_end old new = common_prefix_len nat_eq (reverse old) (reverse new)

-- neither text's words are cut behind so many bytes
abbrev pub is_front_edge : List ℕ → List ℕ → ℕ → Bool
is_front_edge old new count = is_edge old count && is_edge new count

-- nor before the last so many
abbrev pub is_end_edge : List ℕ → List ℕ → ℕ → Bool
is_end_edge old new count = is_edge old (length old - count) && is_edge new (length new - count)

-- the greatest number, up to that one, that passes
abbrev pub IsGreatest : (ℕ → Bool) → ℕ → ℕ → Type 0
IsGreatest passes most number = (number ≤ most) × (passes number ≡ true)
    × ((more : ℕ) → number < more → more ≤ most → passes more ≡ false)
