-- When rows are the same lines.
use Rattle.std.proofs.Common.{◌≡◌, ◌↔◌, ℕ, zero, suc, ◌+◌, ◌-◌, ◌<◌, List, [], ◌∷◌, length, get_or, ◌&&◌, ◌==◌, true, Option, Some, None, option_map, refl, sym, ◌∙◌, ap, arith}
use Rattle.std.specs.Bool.{Decides}
use Rattle.std.specs.Option.{option_map_or}
use Rattle.std.proofs.lemmas.Bool.{and_parts, and_from}
use Rattle.std.proofs.lemmas.Bool.Decides.{Decides-eqb}
use Rattle.page_tree.specs.Tree.{Attribute, words}
use Rattle.page_tree.specs.inside.Table.{Line, line_on, nth_spot}
use Rattle.page_tree.specs.inside.Rows.{attributes_from, row_in, element_of, element_in, line_of_element, lines_kept, line_in}
use Rattle.page_tree.specs.declared.rows.ElementRow.{ElementRow}
use Rattle.page_tree.specs.declared.rows.Row.{Row}
use Rattle.page_tree.specs.declared.rows.Spot.{Spot}
use Rattle.page_tree.specs.declared.table.NodeTable.TheInside.{Inside}
use Rattle.page_tree.proofs.RowLaws.{line_is, text_there, own_there}

-- ---- attributes

first_of : (texts : List (List ℕ)) (at n : ℕ) → 0 < n
    → attributes_from texts at n ≡ (get_or texts at [], get_or texts (at + 1) []) ∷ attributes_from texts (at + 2) (n - 1)
first_of texts at zero some = absurd (omega (arith, some))
first_of texts at (suc n) some =
    let value : at + 1 ≡ suc at = omega arith in
    let next : at + 2 ≡ suc (suc at) = omega arith in
    let less : suc n - 1 ≡ n = omega arith in
    rw (value, next, less) refl

first_pair : (a b : Attribute) (xs ys : List Attribute) → a ∷ xs ≡ b ∷ ys → (a.0 ≡ b.0) × (a.1 ≡ b.1) × (xs ≡ ys)
first_pair a b xs ys same =
    let pair : a ≡ b = cc in
    (ap (λ a. a.0) pair, ap (λ a. a.1) pair, cc)

module _ (texts others : List (List ℕ)) (at other n : ℕ) (some : 0 < n) where
  pub parts_same : attributes_from texts at n ≡ attributes_from others other n
      → (get_or texts at [] ≡ get_or others other []) × (get_or texts (at + 1) [] ≡ get_or others (other + 1) [])
      × (attributes_from texts (at + 2) (n - 1) ≡ attributes_from others (other + 2) (n - 1))
  parts_same same = first_pair _ _ _ _ (sym (first_of texts at n some) ∙ same ∙ first_of others other n some)

  pub all_same : get_or texts at [] ≡ get_or others other [] → get_or texts (at + 1) [] ≡ get_or others (other + 1) []
      → attributes_from texts (at + 2) (n - 1) ≡ attributes_from others (other + 2) (n - 1)
      → attributes_from texts at n ≡ attributes_from others other n
  all_same name value rest = rw (first_of texts at n some, first_of others other n some, name, value, rest) refl

attributes_many : (texts : List (List ℕ)) (at n : ℕ) → length (attributes_from texts at n) ≡ n
attributes_many texts at zero = refl
attributes_many texts at (suc n) = ap suc (attributes_many texts (suc (suc at)) n)

module _ (texts others : List (List ℕ)) (own other : ElementRow) where
  -- own rows of the same lines differ in where their attributes stand alone
  pub same_parts : line_of_element texts [] (nth_spot 0 0) own ≡ line_of_element others [] (nth_spot 0 0) other
      → (record own { attributes = 0 } ≡ record other { attributes = 0 })
      × (attributes_from texts own.attributes own.attribute_count ≡ attributes_from others other.attributes own.attribute_count)
  same_parts same =
      let attributes = ap (λ l. l.attributes) same in
      let many = sym (attributes_many texts own.attributes own.attribute_count) ∙ ap length attributes ∙ attributes_many others other.attributes other.attribute_count in
      let end = ap (λ l. l.end) same in
      let children = ap (λ l. l.children) same in
      (cc, attributes ∙ ap (attributes_from others other.attributes) (sym many))

  pub same_own : record own { attributes = 0 } ≡ record other { attributes = 0 }
      → attributes_from texts own.attributes own.attribute_count ≡ attributes_from others other.attributes own.attribute_count
      → line_of_element texts [] (nth_spot 0 0) own ≡ line_of_element others [] (nth_spot 0 0) other
  same_own but attributes =
      let many = ap (λ e. e.attribute_count) but in
      let end = ap (λ e. e.end) but in
      let children = ap (λ e. e.children) but in
      rw (end, children, attributes, many) refl

-- ---- lines

abbrev line : List (List ℕ) → List ElementRow → ℕ → List ℕ → Spot → Option ℕ → Line
line attributes elements n text spot own =
    option_map_or (λ k. line_of_element attributes text spot (element_in k elements)) own (line_on (words text) spot (suc n) 0)

spot_and_text : (attributes others : List (List ℕ)) (elements other_elements : List ElementRow) (n : ℕ) (text other_text : List ℕ) (spot other_spot : Spot) (own other : Option ℕ)
    → line attributes elements n text spot own ≡ line others other_elements n other_text other_spot other → (spot ≡ other_spot) × (text ≡ other_text)
spot_and_text attributes others elements other_elements n text other_text spot other_spot None None same = (ap (λ l. l.spot) same, ap (λ l. l.text) same)
spot_and_text attributes others elements other_elements n text other_text spot other_spot (Some k) (Some j) same =
    let name : Some text ≡ Some other_text = ap (λ l. l.name) same in
    (ap (λ l. l.spot) same, cc)
spot_and_text attributes others elements other_elements n text other_text spot other_spot None (Some j) same =
    let name : None ≡ Some other_text = ap (λ l. l.name) same in
    cc
spot_and_text attributes others elements other_elements n text other_text spot other_spot (Some k) None same =
    let name : Some text ≡ None = ap (λ l. l.name) same in
    cc

abbrev line_with : Option (List ℕ) → Spot → Line → Line
line_with name spot l = record l { name = name; spot = spot }

module _ (t u : Inside) (ls ms : List Line) (n : ℕ) (are : lines_kept t.texts t.attributes t.rows.items t.elements.items ≡ ls)
    (also : lines_kept u.texts u.attributes u.rows.items u.elements.items ≡ ms) (less : n < length ls) (other_less : n < length ms) where
  pub sides : line_in n ls ≡ line_in n ms → ((row_in n t.rows.items).spot ≡ (row_in n u.rows.items).spot) × (get_or t.texts n [] ≡ get_or u.texts n [])
  sides same =
      spot_and_text t.attributes u.attributes t.elements.items u.elements.items n _ _ _ _ (element_of (row_in n t.rows.items)) (element_of (row_in n u.rows.items))
      (sym (line_is t ls n are less) ∙ same ∙ line_is u ms n also other_less)

  pub like_texts : (row_in n t.rows.items).spot ≡ (row_in n u.rows.items).spot → get_or t.texts n [] ≡ get_or u.texts n []
      → element_of (row_in n t.rows.items) ≡ None → element_of (row_in n u.rows.items) ≡ None → line_in n ls ≡ line_in n ms
  like_texts spot text is its = text_there t ls n are less is ∙ rw (spot, text) refl ∙ sym (text_there u ms n also other_less its)

  pub unlike : (own : ElementRow) → element_of (row_in n t.rows.items) ≡ None → Some own ≡ option_map (λ k. element_in k u.elements.items) (element_of (row_in n u.rows.items))
      → line_in n ls ≡ line_in n ms → ⊥
  unlike own is its same =
      let names : None ≡ Some (get_or u.texts n []) =
      ap (λ l. l.name) (sym (text_there t ls n are less is) ∙ same ∙ own_there u ms n own also other_less its) in
      cc

  pub like_elements : (own other : ElementRow) → (row_in n t.rows.items).spot ≡ (row_in n u.rows.items).spot → get_or t.texts n [] ≡ get_or u.texts n []
      → Some own ≡ option_map (λ k. element_in k t.elements.items) (element_of (row_in n t.rows.items))
      → Some other ≡ option_map (λ k. element_in k u.elements.items) (element_of (row_in n u.rows.items))
      → (line_of_element t.attributes [] (nth_spot 0 0) own ≡ line_of_element u.attributes [] (nth_spot 0 0) other) ↔ (line_in n ls ≡ line_in n ms)
  like_elements own other spot text is its =
      let here = own_there t ls n own are less is in
      let there = own_there u ms n other also other_less its in (
        λ same. here ∙ ap (line_with (Some (get_or t.texts n [])) (row_in n t.rows.items).spot) same ∙ rw (spot, text) refl ∙ sym there,
        λ same. ap (line_with (Some []) (nth_spot 0 0)) (sym here ∙ same ∙ there),
      )

-- ---- rows that are compared one by one

abbrev row : ℕ → ℕ → ℕ → Row
row parent position element = record { spot = nth_spot parent position; element = element }

same_number : (a : ℕ) → a == a ≡ true
same_number a = (Decides-eqb a a).1 refl

pub row_same : (a b : Row) → Decides ((a.spot.parent == b.spot.parent && a.spot.position == b.spot.position) && a.element == b.element) (a ≡ b)
row_same a b = (
  λ yes.
      let (spot, element) = and_parts (a.spot.parent == b.spot.parent && a.spot.position == b.spot.position) (a.element == b.element) yes in
      let (parent, position) = and_parts (a.spot.parent == b.spot.parent) (a.spot.position == b.spot.position) spot in
      ap (λ p. row p a.spot.position a.element) ((Decides-eqb a.spot.parent b.spot.parent).0 parent)
      ∙ ap (λ q. row b.spot.parent q a.element) ((Decides-eqb a.spot.position b.spot.position).0 position)
      ∙ ap (λ e. row b.spot.parent b.spot.position e) ((Decides-eqb a.element b.element).0 element),
  λ same. rw same (and_from _ _ (and_from _ _ (same_number b.spot.parent) (same_number b.spot.position)) (same_number b.element)),
)

abbrev own_row : ℕ → ℕ → ℕ → ℕ → ElementRow
own_row attributes many end children = record { attributes = attributes; attribute_count = many; end = end; children = children }

pub own_same : (a b : ElementRow)
    → Decides (a.attributes == b.attributes && (a.attribute_count == b.attribute_count && (a.end == b.end && a.children == b.children))) (a ≡ b)
own_same a b = (
  λ yes.
      let (first, rest) = and_parts (a.attributes == b.attributes) (a.attribute_count == b.attribute_count && (a.end == b.end && a.children == b.children)) yes in
      let (many, back) = and_parts (a.attribute_count == b.attribute_count) (a.end == b.end && a.children == b.children) rest in
      let (end, children) = and_parts (a.end == b.end) (a.children == b.children) back in
      ap (λ n. own_row n a.attribute_count a.end a.children) ((Decides-eqb a.attributes b.attributes).0 first)
      ∙ ap (λ n. own_row b.attributes n a.end a.children) ((Decides-eqb a.attribute_count b.attribute_count).0 many)
      ∙ ap (λ n. own_row b.attributes b.attribute_count n a.children) ((Decides-eqb a.end b.end).0 end)
      ∙ ap (λ n. own_row b.attributes b.attribute_count b.end n) ((Decides-eqb a.children b.children).0 children),
  λ same. rw same (and_from _ _ (same_number b.attributes) (and_from _ _ (same_number b.attribute_count) (and_from _ _ (same_number b.end) (same_number b.children)))),
)
