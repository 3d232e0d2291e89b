-- Laws of what is dealt round.
use Rattle.std.proofs.Common.{◌≡◌, ℕ, zero, suc, ◌-◌, ◌<◌, inl, inr, refl, sym, ap, subst, ◌∙◌, arith}
use Rattle.std.proofs.Common.{List, [], ◌∷◌, length, map, replicate, slice_get, Some}
use Rattle.std.proofs.lemmas.Option.{slice_get_cases}
use Rattle.std.specs.List.{AllZip}
use Rattle.round_robin.specs.Dealt.{every}

-- how many there are depends on no item
pub every_length : {A : Type 0} (s a : ℕ) (xs : List A) → length (every s a xs) ≡ length (every {A = ℕ} s a (replicate (length xs) 0))
every_length s a [] = refl
every_length s zero (x ∷ xs) = ap suc (every_length s (s - 1) xs)
every_length s (suc a) (x ∷ xs) = every_length s a xs

pub every_share : {A : Type 0} (s a count : ℕ) (held xs : List A) → held ≡ every s a xs → length xs ≡ count
    → length held ≡ length (every {A = ℕ} s a (replicate count 0))
every_share s a count held xs is size = ap length is ∙ every_length s a xs ∙ ap (λ n. length (every {A = ℕ} s a (replicate n 0))) size

-- what holds of each hand's items, one by one, holds of all
pub every_zip : {A B : Type 0} (P : A → B → Type 0) (s : ℕ) (xs : List A) (ys : List B) → length xs ≡ length ys → 0 < s
    → ((a : ℕ) → a < s → AllZip P (every s a xs) (every s a ys)) → AllZip P xs ys
every_zip P s [] [] same some each = tt
every_zip P s [] (y ∷ ys) same some each = absurd (omega (arith, same))
every_zip P s (x ∷ xs) [] same some each = absurd (omega (arith, same))
every_zip {A = A} {B = B} P s (x ∷ xs) (y ∷ ys) same some each =
    (here.0, every_zip P s xs ys (omega (arith, same)) some others)
  where
    here : AllZip P (x ∷ every s (s - 1) xs) (y ∷ every s (s - 1) ys)
    here = each zero some

    by : (a b : ℕ) → a < s → b ≡ s - 1 - a → AllZip P (every s a xs) (every s a ys)
    by a zero within is = subst (λ n. AllZip P (every s n xs) (every s n ys)) (omega (arith, within, is)) here.1
    by a (suc b) within is = each (suc a) (omega (arith, within, is))

    others : (a : ℕ) → a < s → AllZip P (every s a xs) (every s a ys)
    others a within = by a (s - 1 - a) within refl

all_equal : {A : Type 0} (xs ys : List A) → AllZip (λ x y. x ≡ y) xs ys → xs ≡ ys
all_equal [] [] all = refl
all_equal [] (y ∷ ys) all = absurd all
all_equal (x ∷ xs) [] all = absurd all
all_equal (x ∷ xs) (y ∷ ys) all = let rest : xs ≡ ys = all_equal xs ys all.1 in cc

equal_all : {A : Type 0} (xs ys : List A) → xs ≡ ys → AllZip (λ x y. x ≡ y) xs ys
equal_all {A = A} xs ys same = subst (AllZip (λ x y. x ≡ y) xs) same (by xs)
  where
    by : (zs : List A) → AllZip (λ x y. x ≡ y) zs zs
    by [] = tt
    by (z ∷ zs) = (refl, by zs)

-- all hands together say which items there are
pub every_same : {A : Type 0} (s : ℕ) (xs ys : List A) → length xs ≡ length ys → 0 < s → ((a : ℕ) → a < s → every s a xs ≡ every s a ys) → xs ≡ ys
every_same s xs ys same some each =
    all_equal xs ys (every_zip (λ x y. x ≡ y) s xs ys same some (λ a within. equal_all (every s a xs) (every s a ys) (each a within)))

there_is : {V : Type 0} (hands : List V) (a : ℕ) → a < length hands → (v : V) × (slice_get hands a ≡ Some v)
there_is hands a within =
    elim ((slice_get_cases hands a).1) [ inl (v, inside, found, is) ↦ (v, found) | inr (past, none) ↦ absurd (omega (arith, within, past)) ]

-- so does a list of what each hand has
pub every_back : {A V : Type 0} (items : V → List A) (hands : List V) (xs ys : List A) → length xs ≡ length ys → 0 < length hands
    → ((a : ℕ) (v : V) → slice_get hands a ≡ Some v → items v ≡ every (length hands) a xs)
    → ((a : ℕ) (v : V) → slice_get hands a ≡ Some v → items v ≡ every (length hands) a ys) → xs ≡ ys
every_back items hands xs ys same some first second =
    every_same (length hands) xs ys same some
    (λ a within. let hand = there_is hands a within in sym (first a hand.0 hand.1) ∙ second a hand.0 hand.1)
