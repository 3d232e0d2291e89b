-- What the tokens of a text stand for (RFC 8259), as data of `serde_json`.
use Rattle.std.specs.Prelude.{ℕ, List, [], ◌∷◌, length, Option, option_map, option_and_then, unwrap_or}
use Rattle.std.specs.Option.{option_map_or}
use Rattle.json.specs.Token.{Token, begin_array, begin_object}
use Rattle.json.specs.Json as json
use Rattle.json.specs.Find as find
use Rattle.serde_json.specs.Data.{Data, null, Items, no_items, Members, put}
use Rattle.serde_json.specs.Read.{of_json}
use Rattle.serde_json.specs.Find.{as_array}

-- The value that they begin with. Nothing nests deeper than there are tokens.
abbrev pub json_at : List Token → Option json.Json
json_at ts = option_map (λ p. p.0) (json.value (length ts) ts)

-- its data; null where there is none
abbrev pub data_of : List Token → Data
data_of ts = unwrap_or (option_and_then of_json (json_at ts)) null

-- the items that follow an opening bracket
abbrev pub items_behind : List Token → Items
items_behind ts = unwrap_or (as_array (data_of (begin_array ∷ ts))) no_items

-- ---- members, as they stand in the text

-- A name and its value. A name comes as often as the text has it.
abbrev pub NamedData : Type 0
NamedData = List ℕ × Data

abbrev pub named_in : json.Members → List NamedData
named_in json.no_members = []
named_in (json.member name j ms) = (name, unwrap_or (of_json j) null) ∷ named_in ms

-- those that follow an opening brace
abbrev pub members_behind : List Token → List NamedData
members_behind ts = option_map_or named_in (option_and_then find.as_object (json_at (begin_object ∷ ts))) []

-- The members behind so many pairs. Of those of one name the last stays.
abbrev pub put_all : List NamedData → Members → Members
put_all [] found = found
put_all (pair ∷ rest) found = put_all rest (put pair.0 pair.1 found)
