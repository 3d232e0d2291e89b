-- What stands at a place of a list.
use Rattle.std.proofs.Common.{◌≡◌, ℕ, zero, suc, ◌+◌, ◌<◌, List, [], ◌∷◌, ◌++◌, length, take, drop, get_or, map, zip, Option, Some, None, slice_get, refl, sym, ap, ◌∙◌, arith}
use Rattle.std.proofs.lemmas.List.{append-nil, get_or_default, take_more}
use Rattle.std.proofs.Math.ListN.{drop_of_length-le}
use Rattle.std.proofs.Math.Seq.{take-length}
use Rattle.std.specs.List.{last_or}

pub some_same : {A : Type 0} (x y : A) → Some x ≡ Some y → x ≡ y
some_same x y is = cc

pub none_is_some : {A : Type 0} (x : A) (P : Type 0) → None ≡ Some x → P
none_is_some x P is = absurd cc

pub take_suc : {A : Type 0} (xs : List A) (k : ℕ) (x : A) → slice_get xs k ≡ Some x → take (suc k) xs ≡ take k xs ++ x ∷ []
take_suc [] k x at = none_is_some x _ at
take_suc (y ∷ xs) zero x at = ap (λ z. z ∷ []) (some_same y x at)
take_suc (y ∷ xs) (suc k) x at = ap (λ zs. y ∷ zs) (take_suc xs k x at)

pub taken_here : {A : Type 0} (xs : List A) (i : ℕ) (x : A) → i < length xs → x ≡ get_or xs i x → take (i + 1) xs ≡ take i xs ++ x ∷ []
taken_here xs i x below is = take_more xs i x below ∙ ap (λ y. take i xs ++ y ∷ []) (sym is)

-- whatever it would be past the end
pub read_here : {A : Type 0} (xs : List A) (i : ℕ) (d : A) → i < length xs → get_or xs i d ≡ get_or xs i (get_or xs i d)
read_here xs i d below = get_or_default xs i d (get_or xs i d) below

pub zip_at : {A B : Type 0} (xs : List A) (ys : List B) (k : ℕ) (x : A) (y : B) → slice_get xs k ≡ Some x → slice_get ys k ≡ Some y → slice_get (zip xs ys) k ≡ Some (x, y)
zip_at [] ys k x y at there = none_is_some x _ at
zip_at (a ∷ xs) [] k x y at there = none_is_some y _ there
zip_at (a ∷ xs) (b ∷ ys) zero x y at there = ap (λ z. Some (z, b)) (some_same a x at) ∙ ap (λ z. Some (x, z)) (some_same b y there)
zip_at (a ∷ xs) (b ∷ ys) (suc k) x y at there = zip_at xs ys k x y at there

pub front_at : {A : Type 0} (xs : List A) (x : A) (j : ℕ) → j < length xs → slice_get (xs ++ x ∷ []) j ≡ slice_get xs j
front_at [] x j below = absurd (omega (arith, below))
front_at (y ∷ xs) x zero below = refl
front_at (y ∷ xs) x (suc j) below = front_at xs x j (omega (arith, below))

pub last_at : {A : Type 0} (xs : List A) (x : A) → slice_get (xs ++ x ∷ []) (length xs) ≡ Some x
last_at [] x = refl
last_at (y ∷ xs) x = last_at xs x

pub last_push : {A : Type 0} (o : Option A) (xs : List A) (x : A) → last_or o (xs ++ x ∷ []) ≡ Some x
last_push o [] x = refl
last_push o (y ∷ xs) x = last_push (Some y) xs x

-- a list is told by what stands at its places
pub same_places : {A : Type 0} (xs ys : List A) → length xs ≡ length ys → ((j : ℕ) → j < length xs → slice_get xs j ≡ slice_get ys j) → xs ≡ ys
same_places [] [] size same = refl
same_places [] (y ∷ ys) size same = absurd (omega (arith, size))
same_places (x ∷ xs) [] size same = absurd (omega (arith, size))
same_places (x ∷ xs) (y ∷ ys) size same =
    ap (λ z. z ∷ xs) (some_same x y (same 0 (omega arith))) ∙ ap (λ zs. y ∷ zs) (same_places xs ys (omega (arith, size)) (λ j below. same (suc j) (omega (arith, below))))

pub map_at : {A B : Type 0} (f : A → B) (xs : List A) (k : ℕ) (x : A) → slice_get xs k ≡ Some x → slice_get (map f xs) k ≡ Some (f x)
map_at f [] k x at = none_is_some x _ at
map_at f (y ∷ xs) zero x at = ap (λ z. Some (f z)) (some_same y x at)
map_at f (y ∷ xs) (suc k) x at = map_at f xs k x at

pub some_there : {A : Type 0} (xs : List A) (j : ℕ) → j < length xs → (x : A) × (slice_get xs j ≡ Some x)
some_there [] j below = absurd (omega (arith, below))
some_there (x ∷ xs) zero below = (x, refl)
some_there (x ∷ xs) (suc j) below = some_there xs j (omega (arith, below))

pub zip_size : {A B : Type 0} (xs : List A) (ys : List B) → length ys ≡ length xs → length (zip xs ys) ≡ length xs
zip_size [] [] size = refl
zip_size [] (y ∷ ys) size = refl
zip_size (x ∷ xs) [] size = absurd (omega (arith, size))
zip_size (x ∷ xs) (y ∷ ys) size = ap suc (zip_size xs ys (omega (arith, size)))

-- what a changed slice leaves of the vector that it is of
pub written_back : {A : Type 0} (xs ys : List A) (n : ℕ) → n ≡ length ys → length xs ≡ length ys → take n (xs ++ drop (length xs) ys) ≡ xs
written_back xs ys n whole same =
    let none : drop (length xs) ys ≡ [] = drop_of_length-le ys (omega (arith, same)) in
    ap (λ rest. take n (xs ++ rest)) none ∙ ap (take n) (append-nil xs) ∙ ap (λ m. take m xs) (whole ∙ sym same) ∙ take-length xs
