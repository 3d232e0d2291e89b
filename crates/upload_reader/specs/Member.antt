-- Members of a JSON object (RFC 8259, section 4) as messages have them, each with the fault where it isn't so.
use Rattle.std.specs.Prelude.{ℕ, List, if◌then◌else◌, ◌&&◌, nat_le, Option, Some, None, option_map, option_and_then, Result, Ok}
use Rattle.std.specs.Option.{option_map_or, ok_or}
use Rattle.std.specs.Result.{result_map_both}
use Rattle.std.specs.Str.{is_utf8}
use Rattle.serde_json.specs.Data.{Data}
use Rattle.serde_json.specs.Read.{read}
use Rattle.serde_json.specs.Find.{get, as_str, as_number, as_u64}
use Rattle.page_tree.specs.Tree.{Tree}
use Rattle.page_tree.specs.FirstFault.{◌>>=◌}
use Rattle.page_tree.specs.Fault.{page_or_fault}
use Rattle.xpath_child.specs.Path.{Step}
use Rattle.xpath_child.specs.Fault.{path_in}
use Rattle.upload_reader.specs.declared.lane_fault.LaneFault.{LaneFault}
use Rattle.upload_reader.specs.declared.lane_fault.LaneFault.TheVariants.{NotJson, BadMessage, BadPage, BadTarget}
use Rattle.upload_reader.specs.Limits.{max_number}

-- the value that a line is (section 8.1: it is UTF-8); else `E5`
unfoldable pub json_said : List ℕ → Result Data LaneFault
json_said line = ok_or (if is_utf8 line then read line else None) NotJson

-- The member's value, whatever it is. Each fault of a member is `E6`.
abbrev pub member_at : List ℕ → Data → Result Data LaneFault
member_at name d = ok_or (get name d) BadMessage

-- the member read so
abbrev pub member_as : {A : Type 0} → (Data → Option A) → List ℕ → Data → Result A LaneFault
member_as reads name d = ok_or (option_and_then reads (get name d)) BadMessage

-- ---- numbers

abbrev pub if_within : ℕ → ℕ → Option ℕ
if_within least n = if nat_le least n && nat_le n max_number then Some n else None

-- a whole number within the limits
unfoldable pub number_in : ℕ → Data → Option ℕ
number_in least d = option_and_then (if_within least) (option_and_then as_u64 (as_number d))

-- 0 where the member is absent
abbrev pub optional_number_at : List ℕ → Data → Result ℕ LaneFault
optional_number_at name d = ok_or (option_map_or (number_in 0) (get name d) (Some 0)) BadMessage

-- ---- texts, pages and paths

abbrev pub text_in : List ℕ → Data → Option (List ℕ)
text_in name d = option_and_then as_str (get name d)

-- none where the member is absent
abbrev pub optional_text_at : List ℕ → Data → Result (Option (List ℕ)) LaneFault
optional_text_at name d =
    ok_or (option_map_or (λ value. option_map Some (as_str value)) (get name d) (Some None)) BadMessage

-- the page that a value stands for; else `E7`
unfoldable pub page_said : Data → Result Tree LaneFault
page_said d = result_map_both (λ page. page) BadPage (page_or_fault d)

-- the path that has the text; else `E8`
unfoldable pub path_said : List ℕ → Result (List Step) LaneFault
path_said text = result_map_both (λ path. path) BadTarget (path_in text)

-- none where there is no text
abbrev pub path_if_any : Option (List ℕ) → Result (Option (List Step)) LaneFault
path_if_any text = option_map_or (λ given. path_said given >>= λ path. Ok (Some path)) text (Ok None)
