-- The fields that events touched, as the code keeps them: by their numbers on both pages.
use Rattle.std.specs.Prelude.{ℕ, ◌≡◌, ◌<◌, List, All, Bool, true, Option, Some, None}
use Rattle.std.specs.BTreeMap.{get}
use Rattle.std.specs.List.{list_any}
use Rattle.std.specs.Ordering.{nat_cmp}
use Rattle.page_tree.specs.Tree.{Tree}
use Rattle.page_tree.specs.Limits.{nodes}
use Rattle.page_tree.specs.Number.{place_numbered}
use Rattle.upload_reader.specs.declared.message.Event.{Event}
use Rattle.visit_replay.specs.Aim.{Aim, aim_of, strays, is_under_one}
use Rattle.visit_replay.specs.declared.touched.Touched.{Touched}
use Rattle.visit_replay.specs.declared.touched.TouchedField.{TouchedField}

-- it is under one of these two forms alone
abbrev pub strays_now : Tree → Tree → List ℕ → List ℕ → TouchedField → Bool
strays_now old new f g field =
    is_under_one f g (place_numbered field.was old) (place_numbered field.is new)

-- these events touched them; of each pair of numbers that is known, there is one that tells as much
pub record HasTouched (aim : Event → Aim) (old new : Tree) (touched : Touched) (before : List Event) : Type 0 where
  pub within : All (λ field. (field.was < nodes old) × (field.is < nodes new)) touched.fields.items
  pub known : (was is : ℕ) → get nat_cmp touched.known was ≡ Some is → (f g : List ℕ)
      → is_under_one f g (place_numbered was old) (place_numbered is new) ≡ true
      → list_any (strays_now old new f g) touched.fields.items ≡ true
  pub strays : (f g : List ℕ)
      → list_any (strays aim old f g) before ≡ list_any (strays_now old new f g) touched.fields.items

-- where events find their places by their elements
abbrev pub AreTouched : Option (List (List ℕ)) → Tree → Tree → Touched → List Event → Type 0
AreTouched None old new touched before = Unit {0}
AreTouched (Some fresh) old new touched before = HasTouched (aim_of (Some fresh) old new) old new touched before
