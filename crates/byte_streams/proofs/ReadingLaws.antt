-- What several reads in turn come to.
use Rattle.std.proofs.Common.{◌≡◌, ℕ, ◌+◌, ◌-◌, ◌<◌, List, [], ◌∷◌, ◌++◌, length, take, Option, Some, None, refl, sym, ap, ◌∙◌, arith, append-nil, append_assoc}
use Rattle.std.proofs.lemmas.Grind.{common_steps}
use Rattle.std.proofs.Math.Decide.{dec_le}
use Rattle.std.proofs.Math.Nat.{lt_of_not-le}
use Rattle.std.proofs.Math.Seq.{take-append-add}
use Rattle.std.proofs.lemmas.List.{take-append-le}
use Rattle.std.specs.Io.KnownBytes.{Consumes}
use Rattle.byte_streams.specs.Answers.{Answer, bytes_of}
use Rattle.byte_streams.specs.Reading.{Reading, WasRead, MadeWhile, ReadsWhile}

pub bytes_of-append : (earlier later : List Answer) → bytes_of (earlier ++ later) ≡ bytes_of earlier ++ bytes_of later
bytes_of-append earlier later = grind (arith, common_steps)

-- ---- each made while something was undecided

-- one read, where it was undecided
pub made_one : (Undecided : List Answer → Type 0) (answers : List Answer) (answer : Answer) → Undecided answers → MadeWhile Undecided answers (answers ++ answer ∷ [])
made_one Undecided answers answer undecided n low high = grind (arith, common_steps)

-- Reads that were made while `Before` held, and further ones while `Then` held: what `Then` says behind the first ones has to be a case of `Before`.
pub made_then : (Before Then : List Answer → Type 0) (earlier middle later more : List Answer) → later ≡ middle ++ more → ((rest : List Answer) → Then (middle ++ rest) → Before (middle ++ rest))
    → MadeWhile Before earlier middle → MadeWhile Then middle later → MadeWhile Before earlier later
made_then Before Then earlier middle later more grown case before then n low high =
    elim (dec_le (length middle) n) [
      | yes behind ↦
          let sum : n ≡ length middle + (n - length middle) = omega (arith, behind) in
          let front : take n later ≡ middle ++ take (n - length middle) more = ap (take n) grown ∙ ap (λ k. take k (middle ++ more)) sum ∙ take-append-add middle more (n - length middle) in
          rw front (case (take (n - length middle) more) (rw front at (then n behind high)))
      | no not_behind ↦
          let inside : n < length middle = lt_of_not-le not_behind in
          let front : take n later ≡ take n middle = ap (take n) grown ∙ take-append-le n middle more (omega (arith, inside)) in
          rw front (before n low inside)
    ]

-- ---- the same lines, read further

module _ {R : Type 0} where
  -- nothing was read
  pub reads_none : (Undecided : List Answer → Type 0) (old new : Reading R) → new.first ≡ old.first → new.answers ≡ old.answers → ReadsWhile Undecided old new
  reads_none Undecided old new first same = record {
    first = first;
    more = [];
    answers = same ∙ sym (append-nil old.answers);
    needed = rw same (λ n low high. absurd (omega (arith, low, high)));
  }

  -- one read was made
  pub reads_one : (Undecided : List Answer → Type 0) (old new : Reading R) (answer : Answer) → new.first ≡ old.first → new.answers ≡ old.answers ++ answer ∷ [] → Undecided old.answers → ReadsWhile Undecided old new
  reads_one Undecided old new answer first grown undecided = record { first = first; more = answer ∷ []; answers = grown; needed = rw grown (made_one Undecided old.answers answer undecided) }

  -- the same of something that is undecided wherever this is
  pub reads_where : (Undecided Other : List Answer → Type 0) (old new : Reading R) → ((answers : List Answer) → Undecided answers → Other answers) → ReadsWhile Undecided old new → ReadsWhile Other old new
  reads_where Undecided Other old new case reads = record { first = reads.first; more = reads.more; answers = reads.answers; needed = λ n low high. case (take n new.answers) (reads.needed n low high) }

  pub reads_then : (Before Then : List Answer → Type 0) (old now new : Reading R) → ((rest : List Answer) → Then (now.answers ++ rest) → Before (now.answers ++ rest))
      → ReadsWhile Before old now → ReadsWhile Then now new → ReadsWhile Before old new
  reads_then Before Then old now new case before then = record {
    first = then.first ∙ before.first;
    more = before.more ++ then.more;
    answers = then.answers ∙ ap (λ answers. answers ++ then.more) before.answers ∙ append_assoc old.answers before.more then.more;
    needed = made_then Before Then old.answers now.answers new.answers then.more then.answers case before.needed then.needed;
  }

-- ---- the reader

module _ {R : Type 0} (answers : R → List Answer) (remaining : R → Option (List ℕ)) where
  pub was_none : (first : R) → WasRead answers remaining first first []
  was_none first = record { told = sym (append-nil (answers first)); bytes = elim (remaining first) as (λ known. Consumes known known []) [ None ↦ tt | Some bytes ↦ refl ] }

  pub was_then : (first now new : R) (own more : List Answer) → WasRead answers remaining first now own → WasRead answers remaining now new more → WasRead answers remaining first new (own ++ more)
  was_then first now new own more before then = record {
    told = then.told ∙ ap (λ told. told ++ more) before.told ∙ append_assoc (answers first) own more;
    bytes = rw (bytes_of-append own more) (grind (arith, common_steps, before.bytes, then.bytes));
  }

  -- a read that gave bytes
  pub was_given : (now new : R) (bytes : List ℕ) → answers new ≡ answers now ++ Some bytes ∷ [] → Consumes (remaining now) (remaining new) bytes → WasRead answers remaining now new (Some bytes ∷ [])
  was_given now new bytes told consumed = record { told = told; bytes = rw (append-nil bytes) consumed }
