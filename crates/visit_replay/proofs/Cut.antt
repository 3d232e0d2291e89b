-- A text that is cut at one mark and then at the other is cut at the first of both.
use Rattle.std.proofs.Common.{◌≡◌, ℕ, List, [], ◌∷◌, Bool, true, false, cond, ◌||◌, ◌==◌, refl, sym, ◌∙◌, ap, arith}
use Rattle.std.specs.List.{before_first}

pub before_first-cons : (p : ℕ → Bool) (x : ℕ) (xs : List ℕ) → before_first p (x ∷ xs) ≡ cond (p x) [] (x ∷ before_first p xs)
before_first-cons p x xs = grind arith

twice_at : (p q : ℕ → Bool) (x : ℕ) (xs : List ℕ) (a b : Bool) → p x ≡ a → q x ≡ b → before_first q (before_first p xs) ≡ before_first (λ y. p y || q y) xs
    → before_first q (before_first p (x ∷ xs)) ≡ cond (a || b) [] (x ∷ before_first (λ y. p y || q y) xs)
twice_at p q x xs true b first second rest = ap (before_first q) (before_first-cons p x xs) ∙ rw first refl
twice_at p q x xs false b first second rest = ap (before_first q) (before_first-cons p x xs) ∙ rw first (before_first-cons q x (before_first p xs) ∙ rw (second, rest) refl)

twice : (p q : ℕ → Bool) (xs : List ℕ) → before_first q (before_first p xs) ≡ before_first (λ y. p y || q y) xs
twice p q [] = refl
twice p q (x ∷ xs) = twice_at p q x xs (p x) (q x) refl refl (twice p q xs) ∙ sym (before_first-cons (λ y. p y || q y) x xs)

pub before_both : (xs : List ℕ) → before_first (λ c. c == 35) (before_first (λ c. c == 63) xs) ≡ before_first (λ c. c == 63 || c == 35) xs
before_both xs = twice (λ c. c == 63) (λ c. c == 35) xs
