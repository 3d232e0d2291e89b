-- Two texts that are read side by side.
use Rattle.std.proofs.Common.{◌≡◌, ◌↔◌, ℕ, ◌+◌, ◌-◌, ◌<◌, ◌≤◌, List, [], ◌∷◌, ◌++◌, length, take, drop, refl, sym, ◌∙◌, ap, arith, true, false, not}
use Rattle.std.specs.Str.{bytes_eq}
use Rattle.std.proofs.lemmas.Slice.Eq.{bytes_eq-Decides}
use Rattle.std.proofs.lemmas.List.{take-append-le, take-append-drop}
use Rattle.page_tree.specs.Tree.{Tree}
use Rattle.page_tree.specs.Number.{place_numbered}
use Rattle.page_tree.specs.inside.Kept.{words_at}
use Rattle.page_tree.specs.inside.TextWalk.{texts_in}
use Rattle.page_tree.proofs.LoopLaws.{range_step}

-- nothing of a piece is left
pub none_left : (piece rest : List ℕ) → length piece ≡ 0 → piece ++ rest ≡ rest
none_left [] rest none = refl
none_left (b ∷ bs) rest none = absurd (omega (arith, none))

-- the text of the next node becomes the piece
pub refilled : (t : Tree) (piece text : List ℕ) (next end : ℕ) → length piece ≡ 0 → next < end → text ≡ words_at (place_numbered next t) t
    → text ++ texts_in t (next + 1) (end - (next + 1)) ≡ piece ++ texts_in t next (end - next)
refilled t piece text next end none less is =
    rw (none_left piece (texts_in t next (end - next)) none, range_step next end less, is) refl

unlike : (x y : List ℕ) → true ≡ not (bytes_eq x y) → x ≡ y → ⊥
unlike x y differ same = grind (arith, bytes_eq-Decides x y)

alike : (x y : List ℕ) → false ≡ not (bytes_eq x y) → x ≡ y
alike x y like = grind (arith, bytes_eq-Decides x y)

module _ (p q r s : List ℕ) (many : ℕ) (within : many ≤ length p) (other_within : many ≤ length q) where
  fronts : p ++ r ≡ q ++ s → take many p ≡ take many q
  fronts same = sym (take-append-le many p r within) ∙ ap (take many) same ∙ take-append-le many q s other_within

  -- what comes first tells them apart
  pub apart : true ≡ not (bytes_eq (take many p) (take many q)) → p ++ r ≡ q ++ s → ⊥
  apart differ same = unlike (take many p) (take many q) differ (fronts same)

  -- where it is the same, the rest decides
  pub rest_decides : false ≡ not (bytes_eq (take many p) (take many q)) → (drop many (p ++ r) ≡ drop many (q ++ s)) ↔ (p ++ r ≡ q ++ s)
  rest_decides like = (λ rest. whole ∙ ap (λ front. front ++ drop many (p ++ r)) fronts_same ∙ ap (λ after. take many (q ++ s) ++ after) rest ∙ take-append-drop many (q ++ s), ap (drop many))
    where
      whole : p ++ r ≡ take many (p ++ r) ++ drop many (p ++ r)
      whole = sym (take-append-drop many (p ++ r))

      fronts_same : take many (p ++ r) ≡ take many (q ++ s)
      fronts_same = take-append-le many p r within ∙ alike (take many p) (take many q) like ∙ sym (take-append-le many q s other_within)
