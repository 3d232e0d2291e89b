-- What holds of a file that was read to a place.
use Rattle.std.specs.Prelude.{◌≡◌, ℕ, ◌≤◌, List, length, take, Bool, true, false, not, is_none, ◌&&◌}
use Rattle.std.specs.List.{list_any}
use Rattle.byte_streams.specs.Answers.{Answer, bytes_of, last_read, moves_nothing}
use Rattle.byte_streams.specs.declared.source.Last.{Last}

-- a read gave nothing, and didn't fail
abbrev pub gave_nothing : Answer → Bool
gave_nothing answer = not (is_none answer) && moves_nothing answer

module _ {F : Type 0} (seen : F → List ℕ) (lost : F → Bool) where
  -- What was read are the bytes before that place. Where a read gave nothing, it is the end.
  pub record IsReadUpTo (file : F) (answers : List Answer) (place : ℕ) (last : Last) : Type 0 where
    pub place_is : place ≡ length (bytes_of answers)
    pub last_is : last ≡ last_read answers
    pub front : lost file ≡ false → take place (seen file) ≡ bytes_of answers
    pub ended : list_any gave_nothing answers ≡ true → length (seen file) ≤ place
