-- Pieces of HTML whose slots are filled: this project's own format.
use Rattle.std.specs.Prelude.{ℕ, List, [], map, flat_map, slice_get, unwrap_or}
use Rattle.markup.specs.Escaping.{escaped}
use Rattle.markup.specs.declared.filling.Part.{Part}
use Rattle.markup.specs.declared.filling.Part.TheVariants.{Fixed, Words, Made}
use denote.Ref.{Bor}

abbrev pub texts_seen : List (Bor (List ℕ)) → List (List ℕ)
texts_seen texts = map (λ text. text.now) texts

-- nothing, where nothing was given for the slot
abbrev pub in_slot : List (List ℕ) → ℕ → List ℕ
in_slot texts slot = unwrap_or (slice_get texts slot) []

-- What the program wrote itself stands as it is, and so does what was made of pieces; a text is escaped.
abbrev pub part_html : List (List ℕ) → List (List ℕ) → Part → List ℕ
part_html words made (Fixed text) = text.now
part_html words made (Words slot) = escaped (in_slot words slot)
part_html words made (Made slot) = in_slot made slot

abbrev pub filled : List (List ℕ) → List (List ℕ) → List Part → List ℕ
filled words made piece = flat_map (part_html words made) piece
