-- The lines of an input: this project's own rule. A line is what stands before a line feed; bytes behind the last line
-- feed are none yet.
use Rattle.std.specs.Prelude.{ℕ, ◌-◌, List, [], length, take, get_or}
use Rattle.std.specs.List.{slice_split}
use Rattle.byte_streams.specs.Cutting.{is_line_feed}

unfoldable pub complete_lines : List ℕ → List (List ℕ)
complete_lines bytes = take (length (slice_split is_line_feed bytes) - 1) (slice_split is_line_feed bytes)

-- what stands behind the last line feed
unfoldable pub unended_line : List ℕ → List ℕ
unended_line bytes = get_or (slice_split is_line_feed bytes) (length (slice_split is_line_feed bytes) - 1) []
