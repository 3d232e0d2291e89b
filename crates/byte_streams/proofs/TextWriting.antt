-- What a text that is written keeps, write by write.
use Rattle.std.proofs.Common.{◌≡◌, ℕ, ◌+◌, ◌-◌, ◌<◌, List, [], ◌∷◌, ◌++◌, length, take, drop, Option, Some, ap, sym, ◌∙◌, arith, append_assoc}
use Rattle.std.proofs.Math.Seq.{take-add}
use Rattle.std.proofs.lemmas.Grind.{common_steps}
use Rattle.std.specs.Io.KnownBytes.{Appends}
use Rattle.byte_streams.specs.Answers.{Answer}
use Rattle.byte_streams.specs.Writing.{Takes, writes_of}
use Rattle.byte_streams.proofs.ReadLaws.{moves_some, bytes_more}

-- what is left of a text from one place on
pub rest_is : (at : ℕ) (text : List ℕ) → take (length text - at) (drop at text) ≡ drop at text
rest_is at text = grind (arith, common_steps)

module _ {W : Type 0} (puts : W → List Answer) (contents : W → Option (List ℕ)) where
  -- one write more, that took bytes
  pub takes_more : (first before now : W) (text : List ℕ) (at count : ℕ) → Takes (writes_of puts contents first before) (take at text) 0
      → puts now ≡ puts before ++ Some (take count (drop at text)) ∷ [] → Appends (contents before) (contents now) (take count (drop at text))
      → 0 < length (take count (drop at text)) → Takes (writes_of puts contents first now) (take (at + count) text) 0
  takes_more first before now text at count was next grown some =
      let bytes = take count (drop at text) in
      record {
        more = was.more ++ Some bytes ∷ [];
        puts_are = next ∙ ap (λ front. front ++ Some bytes ∷ []) was.puts_are ∙ append_assoc (puts first) was.more (Some bytes ∷ []);
        bytes_are = bytes_more was.more bytes ∙ ap (λ front. front ++ bytes) was.bytes_are ∙ sym (take-add at count text);
        empty_are = grind (arith, common_steps, was.empty_are, moves_some bytes some);
        contents_are = rw (take-add at count text) (grind (arith, common_steps, was.contents_are, grown));
      }
