-- The rows that the code keeps for the nodes of a page, and the lines that they stand for.
use Rattle.std.specs.Prelude.{◌≡◌, ◌≤◌, ◌<◌, ℕ, zero, suc, ◌+◌, ◌*◌, List, [], ◌∷◌, map, get_or, length, slice_set, if◌then◌else◌, nat_lt, Option, Some, None}
use Rattle.std.specs.List.{range_with_len}
use Rattle.std.specs.Option.{option_map_or}
use Rattle.page_tree.specs.Tree.{Attribute, element, words, no_trees}
use Rattle.page_tree.specs.inside.Table.{Line, nth_spot, line_on, line_of}
use Rattle.page_tree.specs.declared.rows.Spot.{Spot}
use Rattle.page_tree.specs.declared.rows.Row.{Row}
use Rattle.page_tree.specs.declared.rows.ElementRow.{ElementRow}

-- the names and values of attributes, as texts behind one another
abbrev pub texts_of_attributes : List Attribute → List (List ℕ)
texts_of_attributes [] = []
texts_of_attributes (a ∷ rest) = a.0 ∷ a.1 ∷ texts_of_attributes rest

-- so many of them, from that text on
abbrev pub attributes_from : List (List ℕ) → ℕ → ℕ → List Attribute
attributes_from texts at zero = []
attributes_from texts at (suc n) =
    (get_or texts at [], get_or texts (suc at) []) ∷ attributes_from texts (suc (suc at)) n

-- ---- rows

abbrev pub row_in : ℕ → List Row → Row
row_in n rows = get_or rows n (record { spot = nth_spot 0 0; element = 65535 })

-- the number of an element's own row; none for a text
abbrev pub element_of : Row → Option ℕ
element_of row = if nat_lt row.element 65535 then Some row.element else None

abbrev pub element_in : ℕ → List ElementRow → ElementRow
element_in k elements = get_or elements k (record { attributes = 0; attribute_count = 0; end = 0; children = 0 })

-- the line of an element with that row of its own
abbrev pub line_of_element : List (List ℕ) → List ℕ → Spot → ElementRow → Line
line_of_element attributes name spot own =
    line_on (element name (attributes_from attributes own.attributes own.attribute_count) no_trees)
    spot own.end own.children

-- the line of the node with that number
abbrev pub line_kept : List (List ℕ) → List (List ℕ) → List Row → List ElementRow → ℕ → Line
line_kept texts attributes rows elements n =
    option_map_or (λ k. line_of_element attributes (get_or texts n []) (row_in n rows).spot (element_in k elements))
    (element_of (row_in n rows)) (line_on (words (get_or texts n [])) (row_in n rows).spot (suc n) 0)

abbrev pub lines_kept : List (List ℕ) → List (List ℕ) → List Row → List ElementRow → List Line
lines_kept texts attributes rows elements =
    map (line_kept texts attributes rows elements) (range_with_len 0 (length rows))

-- each node has a text, and each element a row of its own, whose attributes are there
pub record AreTableRows (texts attributes : List (List ℕ)) (rows : List Row) (elements : List ElementRow) : Type 0 where
  pub text : length texts ≡ length rows
  pub linked : (n k : ℕ) → element_of (row_in n rows) ≡ Some k → k < length elements
  pub once : (m n k : ℕ) → element_of (row_in m rows) ≡ Some k → element_of (row_in n rows) ≡ Some k → m ≡ n
  pub within : (k : ℕ) → k < length elements
      → (element_in k elements).attributes + 2 * (element_in k elements).attribute_count ≤ length attributes

-- ---- lines

abbrev pub line_in : ℕ → List Line → Line
line_in n ls = get_or ls n (line_of (nth_spot 0 0) 0 (words []))

-- the line of that number has that end, where it is an element's
abbrev pub with_line_end : ℕ → ℕ → List Line → List Line
with_line_end n end ls =
    slice_set ls n (record (line_in n ls) { end = option_map_or (λ _. end) (line_in n ls).name (line_in n ls).end })

-- the line of that number has so many children, likewise
abbrev pub with_line_children : ℕ → ℕ → List Line → List Line
with_line_children n many ls =
    slice_set ls n
    (record (line_in n ls) { children = option_map_or (λ _. many) (line_in n ls).name (line_in n ls).children })
