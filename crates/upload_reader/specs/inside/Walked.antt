-- What one walk over the members of a line keeps of them.
use Rattle.std.specs.Prelude.{◌≡◌, ℕ, List, [], ◌∷◌, if◌then◌else◌, Option, Some, option_map, codes}
use Rattle.std.specs.List.{AllByRecursion}
use Rattle.std.specs.Str.{bytes_eq}
use Rattle.serde_json.specs.Data.{Data}
use Rattle.serde_json.specs.Find.{get}
use Rattle.json_document.specs.Standing.{data_of}
use Rattle.upload_reader.specs.declared.last_members.LastMembers.{LastMembers}

-- the names that messages have, each with what was found
abbrev pub named_members : LastMembers → List (List ℕ × Option Data)
named_members l = (codes "t", option_map data_of l.kind) ∷ (codes "visit", option_map data_of l.visit)
    ∷ (codes "at", option_map data_of l.at) ∷ (codes "parent", option_map data_of l.parent)
    ∷ (codes "from", option_map data_of l.from) ∷ (codes "path", option_map data_of l.address)
    ∷ (codes "page", option_map data_of l.page) ∷ (codes "target", option_map data_of l.target)
    ∷ (codes "value", option_map data_of l.value) ∷ (codes "by", option_map data_of l.button)
    ∷ (codes "req", option_map data_of l.req) ∷ []

-- the same behind a member, which counts in the place of an earlier one of its name
abbrev pub with_member : List ℕ → Data → List ℕ × Option Data → List ℕ × Option Data
with_member name d found = (found.0, if bytes_eq found.0 name then Some d else found.1)

-- each is what `serde_json` finds by its name
abbrev pub AreLastMembers : Data → LastMembers → Type 0
AreLastMembers d last = AllByRecursion (λ found. found.1 ≡ get found.0 d) (named_members last)
