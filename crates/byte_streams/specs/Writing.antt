-- What writing a text does to its writer.
use Rattle.std.specs.Prelude.{◌≡◌, ℕ, ◌<◌, List, ◌++◌, length, take, true, count_by, Option, Result, MatchResult}
use Rattle.std.specs.Io.KnownBytes.{Appends}
use Rattle.byte_streams.specs.Answers.{Answer, bytes_of, moves_nothing, last_moved_nothing}

-- What a call did to its writer: what the writes had answered before it and behind it, and the contents then, where
-- they are known.
pub record CallWrites : Type 0 where
  pub puts_before : List Answer
  pub puts_after : List Answer
  pub contents_before : Option (List ℕ)
  pub contents_after : Option (List ℕ)

-- of a writer of which these are known, from the one to the other
abbrev pub writes_of : {W : Type 0} → (W → List Answer) → (W → Option (List ℕ)) → W → W → CallWrites
writes_of puts held old new =
    record { puts_before = puts old; puts_after = puts new; contents_before = held old; contents_after = held new }

-- The writer took just these bytes, in any number of writes, of which so many failed or took nothing. Where its
-- contents are known, they grew by just these bytes.
pub record Takes (call : CallWrites) (bytes : List ℕ) (empty : ℕ) : Type 0 where
  pub more : List Answer
  pub puts_are : call.puts_after ≡ call.puts_before ++ more
  pub bytes_are : bytes_of more ≡ bytes
  pub empty_are : count_by moves_nothing more ≡ empty
  pub contents_are : Appends call.contents_before call.contents_after bytes

-- It took a part from the front of the text. Just one write failed or took nothing, and it was the last.
pub record TakesPart (call : CallWrites) (text : List ℕ) : Type 0 where
  pub count : ℕ
  pub is_part : count < length text
  pub takes : Takes call (take count text) 1
  pub last : last_moved_nothing call.puts_after ≡ true

-- It took the whole text, or else a part.
abbrev pub WritesText : {E : Type 0} → CallWrites → List ℕ → Result (Unit {0}) E → Type 0
WritesText call text result = MatchResult result (λ _. Takes call text 0) (λ _. TakesPart call text)

-- It took nothing, and was not asked to.
pub record WritesNothing (call : CallWrites) : Type 0 where
  pub puts_are : call.puts_after ≡ call.puts_before
  pub contents_are : call.contents_after ≡ call.contents_before
