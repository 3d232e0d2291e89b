-- Texts that are made of two.
use Rattle.std.proofs.Common.{◌≡◌, ℕ, List, ◌++◌, length, take, drop, Bool, true, false, bytes_eq, refl, sym, ap, ◌∙◌}
use Rattle.std.proofs.lemmas.Bool.{false≢true}
use Rattle.std.proofs.lemmas.List.{append_cancel_left, take-append-drop, take_at}
use Rattle.std.proofs.lemmas.Slice.Eq.{bytes_eq-Decides}

pub not_joined : (text front rest : List ℕ) → bytes_eq (take (length front) text) front ≡ false → false ≡ bytes_eq text (front ++ rest)
not_joined text front rest not = by_whole (bytes_eq text (front ++ rest)) refl
  where
    by_whole : (whole : Bool) → bytes_eq text (front ++ rest) ≡ whole → false ≡ whole
    by_whole true same = absurd (false≢true (sym not ∙ (bytes_eq-Decides (take (length front) text) front).1
        (ap (take (length front)) ((bytes_eq-Decides text (front ++ rest)).0 same) ∙ take_at front rest (length front) refl)))
    by_whole false same = refl

pub joined_by_rest : (text front rest left : List ℕ) → bytes_eq (take (length front) text) front ≡ true → left ≡ drop (length front) text
    → bytes_eq left rest ≡ bytes_eq text (front ++ rest)
joined_by_rest text front rest left begins is = by_both (bytes_eq left rest) (bytes_eq text (front ++ rest)) refl refl
  where
    split : text ≡ front ++ left
    split = sym (take-append-drop (length front) text)
        ∙ ap (λ f. f ++ drop (length front) text) ((bytes_eq-Decides (take (length front) text) front).0 begins)
        ∙ ap (λ l. front ++ l) (sym is)

    by_both : (part whole : Bool) → bytes_eq left rest ≡ part → bytes_eq text (front ++ rest) ≡ whole → part ≡ whole
    by_both true true both same = refl
    by_both false false both same = refl
    by_both false true both same =
        sym both ∙ (bytes_eq-Decides left rest).1 (append_cancel_left front left rest (sym split ∙ (bytes_eq-Decides text (front ++ rest)).0 same))
    by_both true false both same =
        sym ((bytes_eq-Decides text (front ++ rest)).1 (split ∙ ap (λ l. front ++ l) ((bytes_eq-Decides left rest).0 both))) ∙ same
