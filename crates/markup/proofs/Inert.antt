-- What stands for a text is inert.
use Rattle.std.proofs.Common.{◌≡◌, ℕ, List, [], ◌∷◌, ◌++◌, Bool, true, false, ◌&&◌, ◌==◌, refl, ap, ◌∙◌}
use Rattle.std.specs.List.{list_all}
use Rattle.markup.specs.Escaping.{escaped_byte, escaped, is_inert_byte, is_inert}

both : (xs ys : List ℕ) → is_inert xs ≡ true → is_inert ys ≡ true → is_inert (xs ++ ys) ≡ true
both [] ys one two = two
both (x ∷ xs) ys one two = first (is_inert_byte x) (λ rest. both xs ys rest two) one
  where
    first : (b : Bool) → (is_inert xs ≡ true → is_inert (xs ++ ys) ≡ true) → (b && is_inert xs) ≡ true → (b && is_inert (xs ++ ys)) ≡ true
    first true more one = more one
    first false more one = one

byte_inert : (c : ℕ) → is_inert (escaped_byte c) ≡ true
unfolding escaped_byte
byte_inert c = by (c == 38) (c == 60) (c == 62) (c == 34) (c == 39) refl refl refl refl refl
  where
    by : (amp lt gt double single : Bool) → (c == 38) ≡ amp → (c == 60) ≡ lt → (c == 62) ≡ gt → (c == 34) ≡ double → (c == 39) ≡ single → is_inert (escaped_byte c) ≡ true
    by true lt gt double single a b d e f = rw a refl
    by false true gt double single a b d e f = rw (a, b) refl
    by false false true double single a b d e f = rw (a, b, d) refl
    by false false false true single a b d e f = rw (a, b, d, e) refl
    by false false false false true a b d e f = rw (a, b, d, e, f) refl
    by false false false false false a b d e f = rw (a, b, d, e, f) (rw (b, d, e, f) refl)

pub always_inert : (words : List ℕ) → is_inert (escaped words) ≡ true
always_inert [] = refl
always_inert (c ∷ words) = both (escaped_byte c) (escaped words) (byte_inert c) (always_inert words)
