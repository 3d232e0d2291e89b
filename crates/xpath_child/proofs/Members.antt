-- Members of a list, and lists without repetition: through `++`, `filter`, `flat_map` and a range of numbers.
use Rattle.std.proofs.Common.{◌≡◌, ℕ, zero, suc, ◌+◌, ◌<◌, ◌≤◌, ◌⊎◌, inl, inr, Bool, true, List, [], ◌∷◌, ◌++◌, refl, sym, subst, arith, filter, flat_map}
use Rattle.std.specs.List.{range_with_len}

abbrev pub IsIn : {X : Type 0} → X → List X → Type 0
IsIn x [] = ⊥
IsIn x (y ∷ ys) = (x ≡ y) ⊎ IsIn x ys

abbrev pub IsDistinct : {X : Type 0} → List X → Type 0
IsDistinct [] = Unit {0}
IsDistinct (x ∷ xs) = (IsIn x xs → ⊥) × IsDistinct xs

-- ---- `++`

in_left : {X : Type 0} (x : X) (xs ys : List X) → IsIn x xs → IsIn x (xs ++ ys)
in_left x [] ys h = absurd h
in_left x (y ∷ xs) ys h = grind (arith, in_left x xs ys)

in_right : {X : Type 0} (x : X) (xs ys : List X) → IsIn x ys → IsIn x (xs ++ ys)
in_right x [] ys h = h
in_right x (y ∷ xs) ys h = inr (in_right x xs ys h)

in_either : {X : Type 0} (x : X) (xs ys : List X) → IsIn x (xs ++ ys) → IsIn x xs ⊎ IsIn x ys
in_either x [] ys h = inr h
in_either x (y ∷ xs) ys h = grind (arith, in_either x xs ys)

distinct_append : {X : Type 0} (xs ys : List X) → IsDistinct xs → IsDistinct ys → ((x : X) → IsIn x xs → IsIn x ys → ⊥) → IsDistinct (xs ++ ys)
distinct_append [] ys first second apart = second
distinct_append (x ∷ xs) ys first second apart = (
  λ h. grind (arith, in_either x xs ys h, apart x, first.0),
  distinct_append xs ys first.1 second (λ y l r. apart y (inr l) r),
)

-- ---- `filter`

pub from_filter : {X : Type 0} (p : X → Bool) (xs : List X) (y : X) → IsIn y (filter p xs) → IsIn y xs × (p y ≡ true)
from_filter p [] y h = absurd h
from_filter p (x ∷ xs) y h = grind (arith, from_filter p xs y)

pub in_filter : {X : Type 0} (p : X → Bool) (xs : List X) (y : X) → p y ≡ true → IsIn y xs → IsIn y (filter p xs)
in_filter p [] y passes h = absurd h
in_filter p (x ∷ xs) y passes h = grind (arith, in_filter p xs y passes)

pub distinct_filter : {X : Type 0} (p : X → Bool) (xs : List X) → IsDistinct xs → IsDistinct (filter p xs)
distinct_filter p [] h = tt
distinct_filter p (x ∷ xs) h = grind (arith, distinct_filter p xs h.1, from_filter p xs x, h.0)

-- ---- `flat_map`

pub from_flat_map : {X Y : Type 0} (f : X → List Y) (xs : List X) (y : Y) → IsIn y (flat_map f xs) → (x : X) × IsIn x xs × IsIn y (f x)
from_flat_map f [] y h = absurd h
from_flat_map f (x ∷ xs) y h = elim (in_either y (f x) (flat_map f xs) h) [
  | inl l ↦ (x, inl refl, l)
  | inr r ↦ let later = from_flat_map f xs y r in (later.0, inr later.1, later.2)
]

pub in_flat_map : {X Y : Type 0} (f : X → List Y) (xs : List X) (x : X) (y : Y) → IsIn x xs → IsIn y (f x) → IsIn y (flat_map f xs)
in_flat_map f [] x y h l = absurd h
in_flat_map f (z ∷ xs) x y h l = grind (arith, in_left y (f z) (flat_map f xs), in_right y (f z) (flat_map f xs), in_flat_map f xs x y)

pub distinct_flat_map : {X Y : Type 0} (f : X → List Y) (xs : List X) → IsDistinct xs → ((x : X) → IsDistinct (f x)) → ((x z : X) (y : Y) → IsIn y (f x) → IsIn y (f z) → x ≡ z) → IsDistinct (flat_map f xs)
distinct_flat_map f [] h each apart = tt
distinct_flat_map f (x ∷ xs) h each apart = distinct_append (f x) (flat_map f xs) (each x) (distinct_flat_map f xs h.1 each apart)
    (λ y l r. let later = from_flat_map f xs y r in h.0 (subst (λ w. IsIn w xs) (sym (apart x later.0 y l later.2)) later.1))

-- ---- numbers in a row

pub in_range : (a n i : ℕ) → a ≤ i → i < a + n → IsIn i (range_with_len a n)
in_range a zero i low high = absurd (omega arith)
in_range a (suc n) i low high = grind (arith, in_range (a + 1) n i)

from_range : (a n i : ℕ) → IsIn i (range_with_len a n) → a ≤ i
from_range a zero i h = absurd h
from_range a (suc n) i h = grind (arith, from_range (a + 1) n i)

pub distinct_range : (a n : ℕ) → IsDistinct (range_with_len a n)
distinct_range a zero = tt
distinct_range a (suc n) = (λ h. grind (arith, from_range (a + 1) n a h), distinct_range (a + 1) n)
