-- What the reads of a source, or the writes of a sink, answered, in order: this project's own words.
use Rattle.std.specs.Prelude.{ℕ, List, [], length, take, Bool, false, ◌==◌, if◌then◌else◌, fold, count_by, flat_map, unwrap_or, is_none, option_map, Option, Result}
use Rattle.std.specs.Option.{option_map_or}
use Rattle.std.specs.Result.{result_ok}
use Rattle.byte_streams.specs.declared.source.Last.{Last}
use Rattle.byte_streams.specs.declared.source.Last.TheVariants.{Fresh, Bytes, Nothing, Failed}

-- One answer: the bytes that were given or taken, maybe none, or `None` where the call failed.
abbrev pub Answer : Type 0
Answer = Option (List ℕ)

-- the answer of a read into a buffer, or of a write from one
abbrev pub answer_of : {E : Type 0} → Result ℕ E → List ℕ → Answer
answer_of result buffer = option_map (λ count. take count buffer) (result_ok result)

-- whether no byte came or went: the call failed, a read met the end of the input, or a write took nothing
abbrev pub moves_nothing : Answer → Bool
moves_nothing answer = length (unwrap_or answer []) == 0

-- all the bytes that came or went
abbrev pub bytes_of : List Answer → List ℕ
bytes_of answers = flat_map (λ answer. unwrap_or answer []) answers

-- how many calls failed
abbrev pub failures_of : List Answer → ℕ
failures_of answers = count_by is_none answers

-- whether the last call moved nothing, where there was one
abbrev pub last_moved_nothing : List Answer → Bool
last_moved_nothing answers = fold (λ before answer. moves_nothing answer) false answers

-- how one read ended
abbrev pub ended_as : Answer → Last
ended_as answer = option_map_or (λ bytes. if length bytes == 0 then Nothing else Bytes) answer Failed

-- how the last of these reads ended, and `Fresh` where there was none
abbrev pub last_read : List Answer → Last
last_read answers = fold (λ before answer. ended_as answer) Fresh answers
