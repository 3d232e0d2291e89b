-- What is made of the items of a list, by their numbers.
use Rattle.std.proofs.Common.{◌≡◌, ℕ, zero, suc, ◌<◌, arith, List, [], ◌∷◌, ◌++◌, length, map, slice_get, slice_set, replicate, Some, None, Result, Ok, Err, ◌⊎◌, inl, inr, refl, ap, subst}
use Rattle.std.specs.Prelude.{slice_index_or, IfOk, Vec}
use Rattle.std.specs.Global.{Global}
use Rattle.std.specs.declared.alloc.AllocError.{AllocError}
use Rattle.shared_stock.specs.Slots.{AreMade, WasMade}
use Rattle.shared_stock.specs.declared.slots.Made.{Made}
use Rattle.std.specs.List.{AllByRecursion, AllZip}

-- it was made of the item of that number
abbrev pub IsMadeOf : {T X : Type 0} → List T → (T → X → Type 0) → ℕ → X → Type 0
IsMadeOf {T} list gives number one = (item : T) × (slice_get list number ≡ Some item) × gives item one

pub all_at : {A : Type 0} (P : A → Type 0) (xs : List A) (k : ℕ) (x : A) → AllByRecursion P xs → slice_get xs k ≡ Some x → P x
all_at P [] k x all at = cc
all_at P (y ∷ xs) zero x all at =
    let same : y ≡ x = cc in
    subst P same all.0
all_at P (y ∷ xs) (suc k) x all at = all_at P xs k x all.1 at

pub all_each : {A : Type 0} (P : A → Type 0) (xs : List A) → ((k : ℕ) (d : A) → k < length xs → P (slice_index_or xs k d)) → AllByRecursion P xs
all_each P [] each = tt
all_each P (x ∷ xs) each = (each 0 x (omega arith), all_each P xs (λ k d less. each (suc k) d (omega (arith, less))))

pub all_join : {A : Type 0} (P : A → Type 0) (xs ys : List A) → AllByRecursion P xs → AllByRecursion P ys → AllByRecursion P (xs ++ ys)
all_join P [] ys all more = more
all_join P (x ∷ xs) ys all more = (all.0, all_join P xs ys all.1 more)

all_got : {A : Type 0} (P : A → Type 0) (xs : List A) → ((k : ℕ) (x : A) → slice_get xs k ≡ Some x → P x) → AllByRecursion P xs
all_got P [] each = tt
all_got P (x ∷ xs) each = (each 0 x refl, all_got P xs (λ k y at. each (suc k) y at))

-- ---- what was made by one of the threads

abbrev pub Shares : Type 0 → Type 0
Shares X = List (Result (Vec (Made X) Global) AllocError)

module _ {X : Type 0} where
  each_share : (shares : Shares X) (thread : ℕ) (share : Result (Vec (Made X) Global) AllocError) → slice_get shares thread ≡ Some share → IfOk share (λ made. AreMade (WasMade shares) made.items)
  each_share shares thread (Err error) at = tt
  each_share shares thread (Ok share) at = all_got (λ made. WasMade shares made.number made.one) share.items (λ place made there. (thread, share, at, place, there))

  pub all_shares : (shares : Shares X) → AllByRecursion (λ share. IfOk share (λ made. AreMade (WasMade shares) made.items)) shares
  all_shares shares = all_got (λ share. IfOk share (λ made. AreMade (WasMade shares) made.items)) shares (each_share shares)

  -- so what holds of all that the threads made holds of it
  pub was_made : (makes : ℕ → X → Type 0) (shares : Shares X) (number : ℕ) (one : X) → AllByRecursion (λ share. IfOk share (λ made. AreMade makes made.items)) shares → WasMade shares number one → makes number one
  was_made makes shares number one all (thread, share, at, place, there) =
      let own : AreMade makes share.items = all_at (λ share. IfOk share (λ made. AreMade makes made.items)) shares thread (Ok share) all at in
      all_at (λ made. makes made.number made.one) share.items place (record { number = number; one = one }) own there

-- a full slot is full of what is there
pub full_slot : {A : Type 0} (xs : List A) (k : ℕ) (x : A) → slice_get xs k ≡ Some x → slice_get (map Some xs) k ≡ Some (Some x)
full_slot [] k x at = cc
full_slot (y ∷ xs) zero x at = ap Some at
full_slot (y ∷ xs) (suc k) x at = full_slot xs k x at

-- in empty slots nothing is
pub none_there : {A : Type 0} (n k : ℕ) (x : A) → slice_get (replicate n None) k ≡ Some (Some x) → ⊥
none_there zero k x at = cc
none_there (suc n) zero x at = cc
none_there (suc n) (suc k) x at = none_there n k x at

-- what is in a slot was just put there, or was there before
pub set_get : {A : Type 0} (xs : List A) (k j : ℕ) (x y : A) → slice_get (slice_set xs k x) j ≡ Some y → ((j ≡ k) × (x ≡ y)) ⊎ (slice_get xs j ≡ Some y)
set_get [] k j x y at = inr at
set_get (z ∷ zs) zero zero x y at = inl (refl, cc)
set_get (z ∷ zs) zero (suc j) x y at = inr at
set_get (z ∷ zs) (suc k) zero x y at = inr at
set_get (z ∷ zs) (suc k) (suc j) x y at = elim (set_get zs k j x y at) [
  | inl same ↦ inl (ap suc same.0, same.1)
  | inr there ↦ inr there
]

-- each item, with what was made of it
pub zip_made : {T X : Type 0} (gives : T → X → Type 0) (list : List T) (made : List X) → length made ≡ length list
    → ((k : ℕ) (one : X) → slice_get (map Some made) k ≡ Some (Some one) → IsMadeOf list gives k one) → AllZip gives list made
zip_made gives [] [] size each = tt
zip_made gives [] (x ∷ made) size each = cc
zip_made gives (t ∷ list) [] size each = cc
zip_made gives (t ∷ list) (x ∷ made) size each =
    let (item, at, given) = each 0 x refl in
    let same : item ≡ t = cc in
    (subst (λ i. gives i x) same given, zip_made gives list made (omega (arith, size)) (λ k one there. each (suc k) one there))
