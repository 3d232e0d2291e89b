-- Which values `serde_json` takes: arrays and objects nest at most 127 deep, and numbers are in range.
use Rattle.std.specs.Prelude.{ℕ, suc, ◌-◌, List, [], ◌∷◌, Bool, true, false, if◌then◌else◌, nat_lt, is_some, IsSome, Option, Some, None}
use Rattle.std.specs.Option.{option_map_or}
use Rattle.json.specs.Token.{Token, begin_object, end_object, begin_array, end_array, key, string, number, boolean, null, bad}
use Rattle.json.specs.Json.{Json}
use Rattle.json.specs.Find.{BeginsWith, InItems, InMembers}
use Rattle.json.specs.Json as json
use Rattle.serde_json.specs.Data.{no_members}
use Rattle.serde_json.specs.Read.{max_depth, number_of, of_json, of_items, of_members}

abbrev deeper : ℕ → Option ℕ
deeper deep = if nat_lt deep max_depth then Some (suc deep) else None

-- In how many arrays and objects the text stands behind a token; none where that is one too many, or the token a number
-- out of range.
unfoldable pub depth_behind : ℕ → Token → Option ℕ
depth_behind deep begin_object = deeper deep
depth_behind deep end_object = Some (deep - 1)
depth_behind deep begin_array = deeper deep
depth_behind deep end_array = Some (deep - 1)
depth_behind deep (key s) = Some deep
depth_behind deep (string s) = Some deep
depth_behind deep (number s) = if is_some (number_of s) then Some deep else None
depth_behind deep (boolean b) = Some deep
depth_behind deep null = Some deep
depth_behind deep bad = Some deep

unfoldable pub fit : ℕ → List Token → Bool
fit deep [] = true
fit deep (t ∷ ts) = option_map_or (λ next. fit next ts) (depth_behind deep t) false

-- ---- places

-- a value that can be data stands there
abbrev pub IsPlace : List Token → Type 0
IsPlace ts = (j : Json) × BeginsWith ts j × IsSome (of_json j)

abbrev pub AreItems : List Token → Type 0
AreItems ts = (js : json.Items) × InItems ts js × IsSome (of_items js)

abbrev pub AreMembers : List Token → Type 0
AreMembers ts = (ms : json.Members) × InMembers ts ms × IsSome (of_members ms no_members)
