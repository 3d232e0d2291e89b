-- Lists side by side, and places in lists.
use Rattle.std.proofs.Common.{◌≡◌, ℕ, zero, suc, List, [], ◌∷◌, ◌++◌, length, map, slice_get, Some, refl, ap, subst, ◌∙◌, arith}
use Rattle.std.proofs.lemmas.Option.{slice_get-map}
use Rattle.std.specs.List.{AllByRecursion, AllZip}
use Rattle.std.specs.Option.{option_map}

pub zip_at : {A B : Type 0} (P : A → B → Type 0) (xs : List A) (ys : List B) → length xs ≡ length ys
    → ((k : ℕ) (x : A) (y : B) → slice_get xs k ≡ Some x → slice_get ys k ≡ Some y → P x y) → AllZip P xs ys
zip_at P [] [] size all = tt
zip_at P [] (y ∷ ys) size all = absurd (omega (arith, size))
zip_at P (x ∷ xs) [] size all = absurd (omega (arith, size))
zip_at P (x ∷ xs) (y ∷ ys) size all = (all 0 x y refl refl, zip_at P xs ys (omega (arith, size)) (λ k a b at at'. all (suc k) a b at at'))

pub zip_get : {A B : Type 0} (P : A → B → Type 0) (xs : List A) (ys : List B) (k : ℕ) (x : A) (y : B) → AllZip P xs ys
    → slice_get xs k ≡ Some x → slice_get ys k ≡ Some y → P x y
zip_get P [] ys k x y all at at' = cc
zip_get P (a ∷ xs) [] k x y all at at' = absurd all
zip_get P (a ∷ xs) (b ∷ ys) zero x y all at at' =
    let one : a ≡ x = cc in let other : b ≡ y = cc in
    subst (λ v. P v y) one (subst (λ w. P a w) other all.0)
zip_get P (a ∷ xs) (b ∷ ys) (suc k) x y all at at' = zip_get P xs ys k x y all.1 at at'

pub zip_push : {A B : Type 0} (P : A → B → Type 0) (xs : List A) (ys : List B) (x : A) (y : B) → AllZip P xs ys → P x y
    → AllZip P (xs ++ x ∷ []) (ys ++ y ∷ [])
zip_push P [] [] x y all here = (here, tt)
zip_push P [] (b ∷ ys) x y all here = absurd all
zip_push P (a ∷ xs) [] x y all here = absurd all
zip_push P (a ∷ xs) (b ∷ ys) x y all here = (all.0, zip_push P xs ys x y all.1 here)

pub zip_length : {A B : Type 0} (P : A → B → Type 0) (xs : List A) (ys : List B) → AllZip P xs ys → length xs ≡ length ys
zip_length P [] [] all = refl
zip_length P [] (y ∷ ys) all = absurd all
zip_length P (x ∷ xs) [] all = absurd all
zip_length P (x ∷ xs) (y ∷ ys) all = ap suc (zip_length P xs ys all.1)

pub mapped_at : {A B : Type 0} (f : A → B) (xs : List A) (ys : List B) (k : ℕ) (x : A) → ys ≡ map f xs → slice_get xs k ≡ Some x → slice_get ys k ≡ Some (f x)
mapped_at f xs ys k x is at = ap (λ all. slice_get all k) is ∙ slice_get-map f xs k ∙ ap (option_map f) at

pub all_each : {A : Type 0} (P : A → Type 0) (xs : List A) → ((k : ℕ) (x : A) → slice_get xs k ≡ Some x → P x) → AllByRecursion P xs
all_each P [] all = tt
all_each P (x ∷ xs) all = (all 0 x refl, all_each P xs (λ k y at. all (suc k) y at))

pub all_more : {X : Type 0} (P : X → Type 0) (xs : List X) (x : X) → AllByRecursion P xs → P x → AllByRecursion P (xs ++ x ∷ [])
all_more P [] x all here = (here, tt)
all_more P (y ∷ xs) x all here = (all.0, all_more P xs x all.1 here)

pub empty : {X : Type 0} (xs : List X) → length xs ≡ 0 → xs ≡ []
empty [] is = refl
empty (x ∷ xs) is = absurd (omega (arith, is))
