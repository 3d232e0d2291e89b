-- What stands in a page for a text, so that none of it is markup: character references of HTML for the five characters
-- that may be. Which text is escaped is this project's own rule: each that the program didn't write itself.
use Rattle.std.specs.Prelude.{ℕ, List, [], ◌∷◌, Bool, not, ◌||◌, ◌==◌, if◌then◌else◌, flat_map, codes}
use Rattle.std.specs.List.{list_all}

-- `&`, `<`, `>`, `"` and `'`
unfoldable pub escaped_byte : ℕ → List ℕ
escaped_byte c =
    if c == 38 then codes "&amp;" else (
    if c == 60 then codes "&lt;" else (
    if c == 62 then codes "&gt;" else (
    if c == 34 then codes "&#34;" else (
    if c == 39 then codes "&#39;" else c ∷ []))))

abbrev pub escaped : List ℕ → List ℕ
escaped words = flat_map escaped_byte words

-- it neither begins nor ends a tag, nor ends the value of an attribute
abbrev pub is_inert_byte : ℕ → Bool
is_inert_byte c = not (c == 60 || c == 62 || c == 34 || c == 39)

abbrev pub is_inert : List ℕ → Bool
is_inert words = list_all is_inert_byte words
