-- Texts kept in one: what is added behind leaves them as they are.
use Rattle.std.proofs.Common.{◌≡◌, ℕ, zero, suc, ◌-◌, ◌≤◌, ◌<◌, List, [], ◌∷◌, ◌++◌, length, get_or, take, drop, slice_range, inl, inr, refl, ◌∙◌, ap, subst, arith, length-append}
use Rattle.std.proofs.Common.{take_all}
use Rattle.std.specs.Prelude.{IsUtf8, IsCharBoundary}
use Rattle.std.proofs.lemmas.Bool.Decides.{leb_tells}
use Rattle.std.proofs.lemmas.Str.{IsCharBoundary-at_seam, IsCharBoundary-end}
use lib.ListN.{get_or-append}
use lib.Seq.{take-append-le, drop-append-le, drop-append_seam}
use Rattle.page_tree.specs.inside.Cuts.{texts_cut, IsCut, AreCuts, start_in}

boundary_kept : (joined more : List ℕ) (i : ℕ) → IsUtf8 more → IsCharBoundary joined i → IsCharBoundary (joined ++ more) i
boundary_kept joined more i valid (within, starts) =
    elim (leb_tells (length joined) i) [
      | inl past ↦
          let last : length joined ≡ i = omega (arith, past.1) in
          subst (IsCharBoundary (joined ++ more)) last (IsCharBoundary-at_seam (joined ++ more) joined more refl valid)
      | inr before ↦
          let same : get_or (joined ++ more) i 0 ≡ get_or joined i 0 = get_or-append joined more 0 i before.1 in
          (omega (arith, length-append joined more), λ _ high. rw same (starts before.1 (rw same at high)))
    ]

cut_kept : (joined more : List ℕ) (start end : ℕ) → IsUtf8 more → IsCut joined start end
    → (slice_range (joined ++ more) start end ≡ slice_range joined start end) × IsCut (joined ++ more) start end
cut_kept joined more start end valid is =
    let within : end ≤ length joined = is.ends.0 in (
      ap (take (end - start)) (drop-append-le start joined more (omega (arith, is.order, within)))
          ∙ take-append-le (end - start) (drop start joined) more (omega (arith, is.order, within, lib.ListN.length-drop start joined)),
      record { order = is.order; starts = boundary_kept joined more start valid is.starts; ends = boundary_kept joined more end valid is.ends },
    )

next_is_cut : (joined text : List ℕ) → IsUtf8 text → (slice_range (joined ++ text) (length joined) (length (joined ++ text)) ≡ text)
    × IsCut (joined ++ text) (length joined) (length (joined ++ text))
next_is_cut joined text valid =
    let long : length (joined ++ text) - length joined ≡ length text = omega (arith, length-append joined text) in (
      rw (long, drop-append_seam joined text) (take_all (length text) text (omega arith)),
      record {
        order = omega (arith, length-append joined text);
        starts = IsCharBoundary-at_seam (joined ++ text) joined text refl valid;
        ends = IsCharBoundary-end (joined ++ text);
      },
    )

-- a text added behind is one text more
pub cut_added : (joined text : List ℕ) (start : ℕ) (ends : List ℕ) → IsUtf8 text → AreCuts start joined ends
    → (texts_cut start (joined ++ text) (ends ++ length (joined ++ text) ∷ []) ≡ texts_cut start joined ends ++ text ∷ [])
    × AreCuts start (joined ++ text) (ends ++ length (joined ++ text) ∷ [])
cut_added joined text start [] valid last =
    let (same, is) = next_is_cut joined text valid in
    rw last (ap (λ t. t ∷ []) same, (is, refl))
cut_added joined text start (end ∷ ends) valid (is, are) =
    let (same, kept) = cut_kept joined text start end valid is in
    let (others, all) = cut_added joined text end ends valid are in
    (cc, (kept, all))

-- ---- the text of that number

pub cut_at : (joined : List ℕ) (start : ℕ) (ends : List ℕ) (n d : ℕ) → AreCuts start joined ends → n < length ends
    → (get_or (texts_cut start joined ends) n [] ≡ slice_range joined (start_in start ends n) (get_or ends n d))
    × IsCut joined (start_in start ends n) (get_or ends n d)
cut_at joined start [] n d are less = absurd (omega (arith, less))
cut_at joined start (end ∷ ends) zero d (is, are) less = (refl, is)
cut_at joined start (end ∷ ends) (suc zero) d (is, are) less = cut_at joined end ends zero d are (omega (arith, less))
cut_at joined start (end ∷ ends) (suc (suc n)) d (is, are) less = cut_at joined end ends (suc n) d are (omega (arith, less))

pub cut_count : (start : ℕ) (joined ends : List ℕ) → length (texts_cut start joined ends) ≡ length ends
cut_count start joined [] = refl
cut_count start joined (end ∷ ends) = ap suc (cut_count end joined ends)
