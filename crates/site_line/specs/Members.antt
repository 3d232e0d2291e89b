-- The members of a site line as its readers find them: this project's own format, in JSON (RFC 8259).
use Rattle.std.specs.Prelude.{ℕ, List, [], ◌∷◌, Option, Some, option_map, option_and_then}
use Rattle.std.specs.Option.{option_map_or}
use Rattle.serde_json.specs.Data.{Data, Items, no_items, item}
use Rattle.serde_json.specs.Find.{get, as_number, as_u64, as_array}

-- a whole number, written with no fraction and no exponent
abbrev pub whole_number : Data → Option ℕ
whole_number d = option_and_then as_u64 (as_number d)

-- the same; another where it is absent
abbrev pub number_or : ℕ → List ℕ → Data → Option ℕ
number_or absent name d = option_map_or whole_number (get name d) (Some absent)

-- what each item says by that reader, where each of them says something
abbrev pub items_by : {A : Type 0} → (Data → Option A) → Items → Option (List A)
items_by reader no_items = Some []
items_by reader (item d ds) = option_and_then (λ x. option_map (λ rest. x ∷ rest) (items_by reader ds)) (reader d)

-- an array; no items where it is absent
abbrev pub array_or_none : List ℕ → Data → Option Items
array_or_none name d = option_map_or as_array (get name d) (Some no_items)

-- an array, by the reader of its items
abbrev pub list_by : {A : Type 0} → (Data → Option A) → List ℕ → Data → Option (List A)
list_by reader name d = option_and_then (items_by reader) (array_or_none name d)
