-- What is added to a buffer of fixed size, on its way to a writer: this project's own words.
use Rattle.std.specs.Prelude.{◌≡◌, ℕ, List, [], ◌++◌, false, MatchBool, Option}
use Rattle.byte_streams.specs.Answers.{Answer}
use Rattle.byte_streams.specs.Writing.{CallWrites, Takes, TakesPart, writes_of}
use Rattle.warp_run.specs.declared.reporting.buffer.ReportBuffer.{ReportBuffer}

abbrev pub IsUnused : ReportBuffer → Type 0
IsUnused buffer = (buffer.held.items ≡ []) × (buffer.failed ≡ false)

-- the writer took the front of the text, and the rest is held back
abbrev pub IsHeldBack : CallWrites → List ℕ → List ℕ → Type 0
IsHeldBack call held text = (front : List ℕ) × Takes call front 0 × (text ≡ front ++ held)

-- the text was added to the buffer; where a write failed, the writer took a part of it
abbrev pub HasAdded : CallWrites → ReportBuffer → List ℕ → Type 0
HasAdded call buffer text = MatchBool buffer.failed (TakesPart call text) (IsHeldBack call buffer.held.items text)

module _ {W : Type 0} (puts : W → List Answer) (contents : W → Option (List ℕ)) where
  -- The piece was added behind whatever was added before, since any writer was the first.
  pub record AddsText (old : W) (before : ReportBuffer) (new : W) (after : ReportBuffer) (piece : List ℕ) : Type 0 where
    pub behind : (first : W) (text : List ℕ) → HasAdded (writes_of puts contents first old) before text
        → HasAdded (writes_of puts contents first new) after (text ++ piece)
