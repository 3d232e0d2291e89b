-- What one walk over the members of an element in a JSON document keeps of them.
use Rattle.std.specs.Prelude.{◌≡◌, ℕ, List, [], ◌∷◌, map, Bool, true, Option, option_map, codes}
use Rattle.std.specs.Option.{option_map_or}
use Rattle.std.specs.Ordering.{nat_cmp, is_lt}
use Rattle.std.specs.Cmp.Lexicographic.{slice_cmp}
use denote.Ref.{Bor}
use Rattle.serde_json.specs.Data.{Data, Members, no_members, member}
use Rattle.serde_json.specs.Find.{get}
use Rattle.json_document.specs.Standing.{data_of}
use Rattle.page_tree.specs.Tree.{Attribute}
use Rattle.page_tree.specs.declared.parts.Parts.{Parts}

-- the last members `n`, `a` and `c` of an element
pub record ArePartsOf (d : Data) (parts : Parts) : Type 0 where
  pub name : option_map data_of parts.name ≡ get (codes "n") d
  pub attributes : option_map data_of parts.attributes ≡ get (codes "a") d
  pub children : option_map data_of parts.children ≡ get (codes "c") d

-- Members by their names. The walk keeps each value as its place, of which a function tells the data.
abbrev pub members_kept : {T : Type 0} → (T → Data) → List (Bor (List ℕ) × T) → Members
members_kept told [] = no_members
members_kept told (e ∷ es) = member e.0.now (told e.1) (members_kept told es)

abbrev pub attributes_seen : List (Bor (List ℕ) × Bor (List ℕ)) → List Attribute
attributes_seen pairs = map (λ a. (a.0.now, a.1.now)) pairs

-- whether a name is above the one before it, where there is one
abbrev pub is_name_above : List ℕ → Option (List ℕ) → Bool
is_name_above name before = option_map_or (λ last. is_lt (slice_cmp nat_cmp last name)) before true
