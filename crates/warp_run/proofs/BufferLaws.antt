-- How one text that is written follows another, and one piece that is added to a buffer.
use Rattle.std.proofs.Common.{◌≡◌, ℕ, ◌+◌, List, [], ◌++◌, length, take, Bool, true, false, Option, Some, None, MatchBool, Result, Ok, Err, is_err, refl, ap, ap₂, sym, subst, ◌∙◌, arith, append_assoc, append-nil, length-append}
use Rattle.std.proofs.lemmas.Grind.{common_steps, flat_map-append}
use Rattle.std.proofs.lemmas.List.{take-append-le}
use Rattle.std.proofs.Math.Seq.{take-append-add}
use Rattle.std.specs.Io.KnownBytes.{Appends}
use Rattle.byte_streams.specs.Answers.{Answer}
use Rattle.byte_streams.specs.Writing.{CallWrites, Takes, TakesPart, WritesText, writes_of}
use Rattle.warp_run.specs.declared.reporting.buffer.ReportBuffer.{ReportBuffer}
use Rattle.warp_run.specs.Buffer.{HasAdded, IsHeldBack, IsUnused, AddsText}

-- ---- writes

appends_then : (old mid new : Option (List ℕ)) (a b : List ℕ) → Appends old mid a → Appends mid new b → Appends old new (a ++ b)
appends_then None mid new a b p q = tt
appends_then (Some xs) None new a b p q = absurd p
appends_then (Some xs) (Some ys) None a b p q = absurd q
appends_then (Some xs) (Some ys) (Some zs) a b p q = q ∙ ap (λ l. l ++ b) p ∙ append_assoc xs a b

-- a part of a text is one of any text that goes on behind it
pub part_more : (call : CallWrites) (text more : List ℕ) → TakesPart call text → TakesPart call (text ++ more)
part_more call text more part = record {
  count = part.count;
  is_part = omega (arith, part.is_part, length-append text more);
  takes = subst (λ front. Takes call front 1) (sym (take-append-le part.count text more (omega (arith, part.is_part)))) part.takes;
  last = part.last;
}

module _ {W : Type 0} (puts : W → List Answer) (contents : W → Option (List ℕ)) where
  pub takes_then : (first mid new : W) (a b : List ℕ) (empty : ℕ) → Takes (writes_of puts contents first mid) a 0 → Takes (writes_of puts contents mid new) b empty
      → Takes (writes_of puts contents first new) (a ++ b) empty
  takes_then first mid new a b empty p q = record {
    more = p.more ++ q.more;
    puts_are = q.puts_are ∙ ap (λ l. l ++ q.more) p.puts_are ∙ append_assoc (puts first) p.more q.more;
    bytes_are = flat_map-append _ p.more q.more ∙ ap₂ (λ (l r : List ℕ). l ++ r) p.bytes_are q.bytes_are;
    empty_are = grind (arith, common_steps, p.empty_are, q.empty_are);
    contents_are = appends_then (contents first) (contents mid) (contents new) a b p.contents_are q.contents_are;
  }

  pub part_then : (first mid new : W) (a b : List ℕ) → Takes (writes_of puts contents first mid) a 0 → TakesPart (writes_of puts contents mid new) b
      → TakesPart (writes_of puts contents first new) (a ++ b)
  part_then first mid new a b p q = record {
    count = length a + q.count;
    is_part = omega (arith, q.is_part, length-append a b);
    takes = subst (λ front. Takes (writes_of puts contents first new) front 1) (sym (take-append-add a b q.count)) (takes_then first mid new a (take q.count b) 1 p q.takes);
    last = q.last;
  }

-- ---- what is added

-- a buffer of which a write failed, or none
as_failed : (call : CallWrites) (b : ReportBuffer) (text : List ℕ) → b.failed ≡ true → TakesPart call text → HasAdded call b text
as_failed call b text is part = subst (λ f. MatchBool f (TakesPart call text) (IsHeldBack call b.held.items text)) (sym is) part

as_held : (call : CallWrites) (b : ReportBuffer) (text : List ℕ) → b.failed ≡ false → IsHeldBack call b.held.items text → HasAdded call b text
as_held call b text is back = subst (λ f. MatchBool f (TakesPart call text) (IsHeldBack call b.held.items text)) (sym is) back

part_added : (call : CallWrites) (b : ReportBuffer) (text : List ℕ) → b.failed ≡ true → HasAdded call b text → TakesPart call text
part_added call b text is has = subst (λ f. MatchBool f (TakesPart call text) (IsHeldBack call b.held.items text)) is has

back_added : (call : CallWrites) (b : ReportBuffer) (text : List ℕ) → b.failed ≡ false → HasAdded call b text → IsHeldBack call b.held.items text
back_added call b text is has = subst (λ f. MatchBool f (TakesPart call text) (IsHeldBack call b.held.items text)) is has

-- more is held back
added_held : (call : CallWrites) (old new : ReportBuffer) (text bytes : List ℕ) → new.held.items ≡ old.held.items ++ bytes → new.failed ≡ old.failed
    → HasAdded call old text → HasAdded call new (text ++ bytes)
added_held call old new text bytes held failed has =
    subst (λ f. MatchBool f (TakesPart call (text ++ bytes)) (IsHeldBack call new.held.items (text ++ bytes))) (sym failed) (longer old.failed has)
  where
    longer : (f : Bool) → MatchBool f (TakesPart call text) (IsHeldBack call old.held.items text)
        → MatchBool f (TakesPart call (text ++ bytes)) (IsHeldBack call new.held.items (text ++ bytes))
    longer true part = part_more call text bytes part
    longer false (front, takes, is) =
        (front, takes, ap (λ t. t ++ bytes) is ∙ append_assoc front old.held.items bytes ∙ ap (λ t. front ++ t) (sym held))

-- nothing is held back any more
has_written : {E : Type 0} (call : CallWrites) (b : ReportBuffer) (text : List ℕ) (r : Result (Unit {0}) E) → b.held.items ≡ [] → b.failed ≡ is_err r
    → WritesText call text r → HasAdded call b text
has_written call b text (Ok done) held is takes =
    as_held call b text is (text, takes, sym (append-nil text) ∙ ap (λ t. text ++ t) (sym held))
has_written call b text (Err e) held is part = as_failed call b text is part

module _ {W : Type 0} (puts : W → List Answer) (contents : W → Option (List ℕ)) where
  pub adds_nothing : (w : W) (b : ReportBuffer) → AddsText puts contents w b w b []
  adds_nothing w b = record { behind = λ first text has. subst (HasAdded (writes_of puts contents first w) b) (sym (append-nil text)) has }

  -- once a write failed, any piece may stand for what isn't written
  pub adds_failed : (w : W) (old new : ReportBuffer) (piece : List ℕ) → old.failed ≡ true → new.failed ≡ true → AddsText puts contents w old w new piece
  adds_failed w old new piece was is = record {
    behind = λ first text has.
        let call = writes_of puts contents first w in as_failed call new (text ++ piece) is (part_more call text piece (part_added call old text was has));
  }

  -- a piece is held back
  pub adds_held : (w : W) (old new : ReportBuffer) (piece : List ℕ) → new.held.items ≡ old.held.items ++ piece → new.failed ≡ old.failed
      → AddsText puts contents w old w new piece
  adds_held w old new piece held failed = record { behind = λ first text has. added_held (writes_of puts contents first w) old new text piece held failed has }

  writes_behind : {E : Type 0} (first mid new : W) (front bytes : List ℕ) (r : Result (Unit {0}) E) → Takes (writes_of puts contents first mid) front 0
      → WritesText (writes_of puts contents mid new) bytes r → WritesText (writes_of puts contents first new) (front ++ bytes) r
  writes_behind first mid new front bytes (Ok done) takes writes = takes_then puts contents first mid new front bytes 0 takes writes
  writes_behind first mid new front bytes (Err e) takes writes = part_then puts contents first mid new front bytes takes writes

  -- what is held back is written, and maybe a piece behind it
  pub adds_written : {E : Type 0} (w v : W) (old new : ReportBuffer) (piece bytes : List ℕ) (r : Result (Unit {0}) E) → old.failed ≡ false
      → new.held.items ≡ [] → new.failed ≡ is_err r → bytes ≡ old.held.items ++ piece → WritesText (writes_of puts contents w v) bytes r
      → AddsText puts contents w old v new piece
  adds_written w v old new piece bytes r was held is all writes = record {
    behind = λ first text has.
        let (front, takes, text_is) = back_added (writes_of puts contents first w) old text was has in
        let whole : front ++ bytes ≡ text ++ piece =
        ap (λ t. front ++ t) all ∙ sym (append_assoc front old.held.items piece) ∙ ap (λ t. t ++ piece) (sym text_is) in
        has_written (writes_of puts contents first v) new (text ++ piece) r held is
        (subst (λ t. WritesText (writes_of puts contents first v) t r) whole (writes_behind first w v front bytes r takes writes));
  }

  -- the same of the last write
  pub finished : {E : Type 0} (first w v : W) (b : ReportBuffer) (text bytes : List ℕ) (r : Result (Unit {0}) E) → b.failed ≡ false → bytes ≡ b.held.items
      → WritesText (writes_of puts contents w v) bytes r → HasAdded (writes_of puts contents first w) b text → WritesText (writes_of puts contents first v) text r
  finished first w v b text bytes r was all writes has =
      let (front, takes, text_is) = back_added (writes_of puts contents first w) b text was has in
      subst (λ t. WritesText (writes_of puts contents first v) t r) (ap (λ t. front ++ t) all ∙ sym text_is) (writes_behind first w v front bytes r takes writes)

  -- nothing was added to a buffer that is new
  pub unused_added : (w : W) (b : ReportBuffer) → IsUnused b → HasAdded (writes_of puts contents w w) b []
  unused_added w b (held, failed) =
      as_held (writes_of puts contents w w) b [] failed ([], record { more = []; puts_are = sym (append-nil (puts w)); bytes_are = refl; empty_are = refl; contents_are = same (contents w) }, sym held)
    where
      same : (known : Option (List ℕ)) → Appends known known []
      same None = tt
      same (Some xs) = sym (append-nil xs)

-- ---- one behind another

module _ {W : Type 0} {puts : W → List Answer} {contents : W → Option (List ℕ)} where
  adds_then : (w₀ w₁ w₂ : W) (b₀ b₁ b₂ : ReportBuffer) (p q : List ℕ) → AddsText puts contents w₀ b₀ w₁ b₁ p → AddsText puts contents w₁ b₁ w₂ b₂ q
      → AddsText puts contents w₀ b₀ w₂ b₂ (p ++ q)
  adds_then w₀ w₁ w₂ b₀ b₁ b₂ p q one two = record {
    behind = λ first text has. subst (HasAdded (writes_of puts contents first w₂) b₂) (append_assoc text p q) (two.behind first (text ++ p) (one.behind first text has));
  }

  infixr 5 ◌>>◌
  pub ◌>>◌ : {w₀ w₁ w₂ : W} {b₀ b₁ b₂ : ReportBuffer} {p q : List ℕ} → AddsText puts contents w₀ b₀ w₁ b₁ p → AddsText puts contents w₁ b₁ w₂ b₂ q
      → AddsText puts contents w₀ b₀ w₂ b₂ (p ++ q)
  one >> two = adds_then _ _ _ _ _ _ _ _ one two

  -- the same piece in other words
  pub adds_as : {w v : W} {b c : ReportBuffer} {p q : List ℕ} → AddsText puts contents w b v c p → p ≡ q → AddsText puts contents w b v c q
  adds_as added same = subst (AddsText puts contents _ _ _ _) same added
