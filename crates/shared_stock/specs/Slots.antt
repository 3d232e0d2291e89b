-- What threads made of the items of a list.
use Rattle.std.specs.Prelude.{◌≡◌, ℕ, List, slice_get, Option, Some, Result, Ok, Vec}
use Rattle.std.specs.Global.{Global}
use Rattle.std.specs.List.{AllByRecursion}
use Rattle.std.specs.declared.alloc.AllocError.{AllocError}
use Rattle.shared_stock.specs.declared.slots.Made.{Made}

module _ {X : Type 0} (makes : ℕ → X → Type 0) where
  -- what the work gives of an item of the list is made of its number
  abbrev pub IsMadeBy : {T : Type 0} → List T → (T → X → Type 0) → Type 0
  IsMadeBy {T} list gives =
      (number : ℕ) (item : T) (one : X) → slice_get list number ≡ Some item → gives item one → makes number one

  -- each of these was made of its number
  abbrev pub AreMade : List (Made X) → Type 0
  AreMade made = AllByRecursion (λ one. makes one.number one.one) made

  -- each slot is empty, or has what was made of the item of its number
  abbrev pub ArePlaced : List (Option X) → Type 0
  ArePlaced slots = (k : ℕ) (one : X) → slice_get slots k ≡ Some (Some one) → makes k one

-- one of the threads made that of the item of that number
abbrev pub WasMade : {X : Type 0} → List (Result (Vec (Made X) Global) AllocError) → ℕ → X → Type 0
WasMade {X} shares number one =
    (thread : ℕ) × (share : Vec (Made X) Global) × (slice_get shares thread ≡ Some (Ok share))
    × (place : ℕ) × (slice_get share.items place ≡ Some (record { number = number; one = one }))
