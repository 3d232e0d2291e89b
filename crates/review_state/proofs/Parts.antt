-- What was looked for stands in a text, or nowhere.
use Rattle.std.proofs.Common.{◌≡◌, ℕ, ◌+◌, List, ◌++◌, length, take, drop, true, is_some, Option, Some, None, refl, sym, ap, ◌∙◌, arith}
use Rattle.std.proofs.lemmas.Bool.{false≢true}
use Rattle.std.proofs.lemmas.List.{drop_at, take-append-drop, length-append}
use Rattle.std.proofs.lemmas.List.Prefix.{at_from_reads, at_reads}
use Rattle.memchr.specs.Find.{OccursAt, FindsNeedle}
use Rattle.review_state.specs.Finding.{IsFoundIn}

occurs : (text part front rest : List ℕ) → text ≡ front ++ (part ++ rest) → OccursAt text part (length front)
occurs text part front rest is =
    let long = ap length is ∙ length-append front (part ++ rest) in
    let at_end = ap (drop (length front)) is ∙ drop_at front (part ++ rest) (length front) refl in
    record {
      fits = omega (arith, long, length-append part rest);
      reads = λ j less. at_reads 0 text part (length front) rest at_end j less;
    }

stands : (text part : List ℕ) (k : ℕ) → OccursAt text part k → IsFoundIn part text
stands text part k occurs_there = (
  take k text,
  drop (k + length part) text,
  sym (take-append-drop k text)
      ∙ ap (λ rest. take k text ++ rest) (at_from_reads 0 text part k occurs_there.fits occurs_there.reads),
)

pub told_by_find : (text part : List ℕ) (found : Option ℕ) → FindsNeedle text part 0 found
    → (is_some found ≡ true → IsFoundIn part text) × (IsFoundIn part text → is_some found ≡ true)
told_by_find text part None nowhere = (
  λ no. absurd (false≢true no),
  λ part_of. let there = occurs text part part_of.0 part_of.1 part_of.2 in
      absurd (nowhere (length part_of.0) (omega arith) (omega (arith, there.fits)) there),
)
told_by_find text part (Some k) first = (λ is. stands text part k first.1, λ part_of. refl)
