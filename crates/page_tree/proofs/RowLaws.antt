-- Rows and the lines that they stand for: what one row more, a new end and a new count do to them.
use Rattle.std.proofs.Common.{◌≡◌, ℕ, zero, suc, ◌+◌, ◌*◌, ◌<◌, ◌≤◌, List, [], ◌∷◌, ◌++◌, length, map, get_or, Option, Some, None, option_map, ◌⊎◌, inl, inr, refl, sym, ◌∙◌, ap}
use Rattle.std.proofs.Common.{arith, length-append, append_assoc}
use Rattle.std.specs.List.{slice_set, range_with_len}
use Rattle.std.specs.Option.{IfSome, option_map_or}
use Rattle.std.proofs.lemmas.Bool.Decides.{leb_tells, eqb_tells}
use Rattle.std.proofs.lemmas.List.{get_or_at, get_or_past, get_or_default, get_or-set_same, get_or-set_other, set-get_or, length-set, ext_get_or}
use Rattle.std.proofs.lemmas.List.FromFn.{get_or-map-range_with_len, length-map-range_with_len, map-range_with_len_more}
use lib.ListN.{get_or-append}
use Rattle.page_tree.specs.Tree.{Attribute, element, words, no_trees}
use Rattle.page_tree.specs.inside.Table.{Line, line_on}
use Rattle.page_tree.specs.inside.Rows.{texts_of_attributes, attributes_from, row_in, element_of, element_in, line_of_element, line_kept, lines_kept, AreTableRows, line_in, with_line_end, with_line_children}
use Rattle.page_tree.specs.declared.rows.Row.{Row}
use Rattle.page_tree.specs.declared.table.NodeTable.TheInside.{Inside}
use Rattle.page_tree.specs.declared.rows.ElementRow.{ElementRow}
use Rattle.page_tree.specs.declared.rows.Spot.{Spot}

abbrev Texts : Type 0
Texts = List (List ℕ)

-- ---- lines

pub line_there : (texts attributes : Texts) (rows : List Row) (elements : List ElementRow) (n : ℕ) → n < length rows
    → line_in n (lines_kept texts attributes rows elements) ≡ line_kept texts attributes rows elements n
line_there texts attributes rows elements n less = get_or-map-range_with_len (line_kept texts attributes rows elements) 0 (length rows) n n _ less (omega arith)

pub lines_count : (texts attributes : Texts) (rows : List Row) (elements : List ElementRow) → length (lines_kept texts attributes rows elements) ≡ length rows
lines_count texts attributes rows elements = length-map-range_with_len (line_kept texts attributes rows elements) 0 (length rows)

line_spot : (o : Option ℕ) (f : ℕ → Line) (l : Line) (spot : Spot) → ((k : ℕ) → (f k).spot ≡ spot) → l.spot ≡ spot → (option_map_or f o l).spot ≡ spot
line_spot None f l spot are is = is
line_spot (Some k) f l spot are is = are k

pub spot_there : (texts attributes : Texts) (rows : List Row) (elements : List ElementRow) (n : ℕ) → n < length rows
    → (line_in n (lines_kept texts attributes rows elements)).spot ≡ (row_in n rows).spot
spot_there texts attributes rows elements n less =
    ap (λ l. l.spot) (line_there texts attributes rows elements n less)
    ∙ line_spot (element_of (row_in n rows)) (λ k. line_of_element attributes (get_or texts n []) (row_in n rows).spot (element_in k elements)) _ (row_in n rows).spot (λ k. refl) refl

-- the line of a table that is kept so
module _ (t : Inside) (ls : List Line) (n : ℕ) (are : lines_kept t.texts t.attributes t.rows.items t.elements.items ≡ ls) (less : n < length ls) where
  pub line_is : line_in n ls ≡ line_kept t.texts t.attributes t.rows.items t.elements.items n
  line_is =
      ap (line_in n) (sym are)
      ∙ line_there t.texts t.attributes t.rows.items t.elements.items n (omega (arith, less, ap length are, lines_count t.texts t.attributes t.rows.items t.elements.items))

  pub text_there : element_of (row_in n t.rows.items) ≡ None → line_in n ls ≡ line_on (words (get_or t.texts n [])) (row_in n t.rows.items).spot (suc n) 0
  text_there is = line_is ∙ rw is refl

  pub element_there : (k : ℕ) → element_of (row_in n t.rows.items) ≡ Some k
      → line_in n ls ≡ line_of_element t.attributes (get_or t.texts n []) (row_in n t.rows.items).spot (element_in k t.elements.items)
  element_there k is = line_is ∙ rw is refl

pub no_own : (elements : List ElementRow) (o : Option ℕ) → None ≡ option_map (λ k. element_in k elements) o → o ≡ None
no_own elements None is = refl
no_own elements (Some k) is = cc

pub its_own : (elements : List ElementRow) (o : Option ℕ) (own : ElementRow) → Some own ≡ option_map (λ k. element_in k elements) o
    → (k : ℕ) × (o ≡ Some k) × (element_in k elements ≡ own)
its_own elements None own is = cc
its_own elements (Some k) own is = (k, refl, cc)

pub own_there : (t : Inside) (ls : List Line) (n : ℕ) (own : ElementRow) → lines_kept t.texts t.attributes t.rows.items t.elements.items ≡ ls → n < length ls
    → Some own ≡ option_map (λ k. element_in k t.elements.items) (element_of (row_in n t.rows.items))
    → line_in n ls ≡ line_of_element t.attributes (get_or t.texts n []) (row_in n t.rows.items).spot own
own_there t ls n own are less is =
    let (k, link, same) = its_own t.elements.items (element_of (row_in n t.rows.items)) own is in
    element_there t ls n are less k link ∙ ap (line_of_element t.attributes (get_or t.texts n []) (row_in n t.rows.items).spot) same

if_some : {X : Type 0} (o : Option X) (P : X → Type 0) → ((x : X) → o ≡ Some x → P x) → IfSome o P
if_some None P holds = tt
if_some (Some x) P holds = holds x refl

pub linked_there : (t : Inside) (n : ℕ) → AreTableRows t.texts t.attributes t.rows.items t.elements.items
    → IfSome (element_of (row_in n t.rows.items)) (λ k. k < length t.elements.items)
linked_there t n is = if_some (element_of (row_in n t.rows.items)) (λ k. k < length t.elements.items) (is.linked n)

pub within_there : (t : Inside) (n : ℕ) (own : ElementRow) → AreTableRows t.texts t.attributes t.rows.items t.elements.items
    → Some own ≡ option_map (λ k. element_in k t.elements.items) (element_of (row_in n t.rows.items))
    → own.attributes + 2 * own.attribute_count ≤ length t.attributes
within_there t n own kept is =
    let (k, link, same) = its_own t.elements.items (element_of (row_in n t.rows.items)) own is in
    rw same at (kept.within k (kept.linked n k link))

-- ---- attributes

attributes_kept : (texts more : List (List ℕ)) (at n : ℕ) → at + 2 * n ≤ length texts
    → attributes_from (texts ++ more) at n ≡ attributes_from texts at n
attributes_kept texts more at zero within = refl
attributes_kept texts more at (suc n) within =
    let name : get_or (texts ++ more) at [] ≡ get_or texts at [] = get_or-append texts more [] at (omega arith) in
    let value : get_or (texts ++ more) (suc at) [] ≡ get_or texts (suc at) [] = get_or-append texts more [] (suc at) (omega arith) in
    let rest = attributes_kept texts more (suc (suc at)) n (omega arith) in
    cc

pub length_of_attributes : (attributes : List Attribute) → length (texts_of_attributes attributes) ≡ 2 * length attributes
length_of_attributes [] = refl
length_of_attributes (a ∷ rest) = omega (arith, length_of_attributes rest)

attributes_there : (before : List (List ℕ)) (attributes : List Attribute) (at : ℕ) → length before ≡ at
    → attributes_from (before ++ texts_of_attributes attributes) at (length attributes) ≡ attributes
attributes_there before [] at is = refl
attributes_there before (a ∷ rest) at is =
    let value = rw append_assoc at (get_or_at (before ++ a.0 ∷ []) a.1 (texts_of_attributes rest) [] (suc at) (omega (arith, is, length-append before (a.0 ∷ [])))) in
    let later = rw append_assoc at (attributes_there (before ++ a.0 ∷ a.1 ∷ []) rest (suc (suc at)) (omega (arith, is, length-append before (a.0 ∷ a.1 ∷ [])))) in
    rw (get_or_at before a.0 (a.1 ∷ texts_of_attributes rest) [] at is, value, later) refl

-- ---- one row more

-- a line stays the same
line_stays : (texts texts' attributes attributes' : Texts) (rows rows' : List Row) (elements elements' : List ElementRow) (n : ℕ)
    → get_or texts' n [] ≡ get_or texts n [] → row_in n rows' ≡ row_in n rows
    → ((k : ℕ) (name : List ℕ) (spot : Spot) → element_of (row_in n rows) ≡ Some k
    → line_of_element attributes' name spot (element_in k elements') ≡ line_of_element attributes name spot (element_in k elements))
    → line_kept texts' attributes' rows' elements' n ≡ line_kept texts attributes rows elements n
line_stays texts texts' attributes attributes' rows rows' elements elements' n text row own =
    rw (text, row) (by (element_of (row_in n rows)) _ _ _ (λ k. own k (get_or texts n []) (row_in n rows).spot))
  where
    by : (o : Option ℕ) (f g : ℕ → Line) (l : Line) → ((k : ℕ) → o ≡ Some k → f k ≡ g k) → option_map_or f o l ≡ option_map_or g o l
    by None f g l same = refl
    by (Some k) f g l same = same k refl

lines_more : (f g : ℕ → Line) (n : ℕ) → ((k : ℕ) → k < n → g k ≡ f k) → map g (range_with_len 0 (n + 1)) ≡ map f (range_with_len 0 n) ++ g n ∷ []
lines_more f g n same =
    map-range_with_len_more g 0 n n (omega arith) ∙ ap (λ ls. ls ++ g n ∷ []) (ext_get_or (f 0) _ _ (length-map-range_with_len g 0 n ∙ sym (length-map-range_with_len f 0 n))
    (λ k less.
    let there : k < n = omega (arith, less, length-map-range_with_len g 0 n) in
    get_or-map-range_with_len g 0 n k k (f 0) there (omega arith) ∙ same k there ∙ sym (get_or-map-range_with_len f 0 n k k (f 0) there (omega arith))))

-- a row that is there now was there, or is the new one
row_of : (rows : List Row) (row : Row) (n k : ℕ) → element_of (row_in n (rows ++ row ∷ [])) ≡ Some k
    → ((n < length rows) × (element_of (row_in n rows) ≡ Some k)) ⊎ ((n ≡ length rows) × (element_of row ≡ Some k))
row_of rows row n k is = elim (leb_tells (length rows) n) [
  | inl behind ↦ elim (eqb_tells n (length rows)) [
    | inl last ↦ inr (last.1, ap element_of (sym (get_or_at rows row [] _ n (sym last.1))) ∙ is)
    | inr later ↦
        let past : length (rows ++ row ∷ []) ≤ n = omega (arith, behind.1, later.1, length-append rows (row ∷ [])) in
        let none : None ≡ Some k = ap element_of (sym (get_or_past (rows ++ row ∷ []) n _ past)) ∙ is in
        cc
  ]
  | inr before ↦ inl (before.1, ap element_of (sym (get_or-append rows (row ∷ []) _ n before.1)) ∙ is)
]

module _ (texts attributes : Texts) (rows : List Row) (elements : List ElementRow) (kept : AreTableRows texts attributes rows elements) where
  -- attributes without an element are left over where memory was wanting
  pub kept_longer : (attributes' : Texts) → length attributes ≤ length attributes' → AreTableRows texts attributes' rows elements
  kept_longer attributes' longer = record {
    text = kept.text;
    linked = kept.linked;
    once = kept.once;
    within = λ k less. omega (arith, longer, kept.within k less);
  }

  pub words_added : (spot : Spot) (text : List ℕ) (row : Row) → row.spot ≡ spot → element_of row ≡ None
      → (lines_kept (texts ++ text ∷ []) attributes (rows ++ row ∷ []) elements
      ≡ lines_kept texts attributes rows elements ++ line_on (words text) spot (suc (length (lines_kept texts attributes rows elements))) 0 ∷ [])
      × AreTableRows (texts ++ text ∷ []) attributes (rows ++ row ∷ []) elements
  words_added spot text row at is =
      let many : length (rows ++ row ∷ []) ≡ length rows + 1 = length-append rows (row ∷ []) in
      let f = line_kept texts attributes rows elements in
      let g = line_kept (texts ++ text ∷ []) attributes (rows ++ row ∷ []) elements in
      let stays : (n : ℕ) → n < length rows → g n ≡ f n =
      λ n less. line_stays texts (texts ++ text ∷ []) attributes attributes rows (rows ++ row ∷ []) elements elements n
      (get_or-append texts (text ∷ []) [] n (omega (arith, less, kept.text))) (get_or-append rows (row ∷ []) _ n less) (λ k name spot there. refl) in
      let new_row : row_in (length rows) (rows ++ row ∷ []) ≡ row = get_or_at rows row [] _ (length rows) refl in
      let new_text : get_or (texts ++ text ∷ []) (length rows) [] ≡ text = get_or_at texts text [] [] (length rows) kept.text in
      let last : g (length rows) ≡ line_on (words text) spot (suc (length (lines_kept texts attributes rows elements))) 0 =
      rw (lines_count texts attributes rows elements, new_row, new_text, is, at) refl in
      let old : (n k : ℕ) → element_of (row_in n (rows ++ row ∷ [])) ≡ Some k → element_of (row_in n rows) ≡ Some k =
      λ n k there. elim (row_of rows row n k there) [
        | inl before ↦ before.1
        | inr new ↦ let none : None ≡ Some k = sym is ∙ new.1 in cc
      ] in (
        ap (λ n. map g (range_with_len 0 n)) many ∙ lines_more f g (length rows) stays ∙ ap (λ l. lines_kept texts attributes rows elements ++ l ∷ []) last,
        record {
          text = omega (arith, kept.text, many, length-append texts (text ∷ []));
          linked = λ n k there. kept.linked n k (old n k there);
          once = λ m n k one other. kept.once m n k (old m k one) (old n k other);
          within = kept.within;
        },
      )

  pub element_added : (spot : Spot) (name : List ℕ) (given : List Attribute) (own : ElementRow) (row : Row) → row.spot ≡ spot → element_of row ≡ Some (length elements)
      → own.attributes ≡ length attributes → own.attribute_count ≡ length given
      → (lines_kept (texts ++ name ∷ []) (attributes ++ texts_of_attributes given) (rows ++ row ∷ []) (elements ++ own ∷ [])
      ≡ lines_kept texts attributes rows elements ++ line_on (element name given no_trees) spot own.end own.children ∷ [])
      × AreTableRows (texts ++ name ∷ []) (attributes ++ texts_of_attributes given) (rows ++ row ∷ []) (elements ++ own ∷ [])
  element_added spot name given own row at is first counted =
      let many : length (rows ++ row ∷ []) ≡ length rows + 1 = length-append rows (row ∷ []) in
      let more : length (elements ++ own ∷ []) ≡ length elements + 1 = length-append elements (own ∷ []) in
      let longer : length (attributes ++ texts_of_attributes given) ≡ length attributes + 2 * length given =
      omega (arith, length-append attributes (texts_of_attributes given), length_of_attributes given) in
      let f = line_kept texts attributes rows elements in
      let g = line_kept (texts ++ name ∷ []) (attributes ++ texts_of_attributes given) (rows ++ row ∷ []) (elements ++ own ∷ []) in
      let own_stays : (k : ℕ) → k < length elements → element_in k (elements ++ own ∷ []) ≡ element_in k elements =
      λ k less. get_or-append elements (own ∷ []) _ k less in
      let stays : (n : ℕ) → n < length rows → g n ≡ f n =
      λ n less. line_stays texts (texts ++ name ∷ []) attributes (attributes ++ texts_of_attributes given) rows (rows ++ row ∷ []) elements (elements ++ own ∷ []) n
      (get_or-append texts (name ∷ []) [] n (omega (arith, less, kept.text))) (get_or-append rows (row ∷ []) _ n less)
      (λ k name spot there.
      let inside = kept.linked n k there in
      rw (own_stays k inside, attributes_kept attributes (texts_of_attributes given) (element_in k elements).attributes (element_in k elements).attribute_count (kept.within k inside)) refl) in
      let new_row : row_in (length rows) (rows ++ row ∷ []) ≡ row = get_or_at rows row [] _ (length rows) refl in
      let new_name : get_or (texts ++ name ∷ []) (length rows) [] ≡ name = get_or_at texts name [] [] (length rows) kept.text in
      let new_own : element_in (length elements) (elements ++ own ∷ []) ≡ own = get_or_at elements own [] _ (length elements) refl in
      let last : g (length rows) ≡ line_on (element name given no_trees) spot own.end own.children =
      rw (new_row, new_name, is, new_own, at, first, counted, attributes_there attributes given (length attributes) refl) refl in
      let newest : (k : ℕ) → element_of row ≡ Some k → k ≡ length elements = λ k there. let same : Some k ≡ Some (length elements) = sym there ∙ is in cc in (
        ap (λ n. map g (range_with_len 0 n)) many ∙ lines_more f g (length rows) stays ∙ ap (λ l. lines_kept texts attributes rows elements ++ l ∷ []) last,
        record {
          text = omega (arith, kept.text, many, length-append texts (name ∷ []));
          linked = λ n k there. elim (row_of rows row n k there) [
            | inl before ↦ omega (arith, more, kept.linked n k before.1)
            | inr new ↦ omega (arith, more, newest k new.1)
          ];
          once = λ m n k one other. elim (row_of rows row m k one) [
            | inl before ↦ elim (row_of rows row n k other) [
              | inl earlier ↦ kept.once m n k before.1 earlier.1
              | inr new ↦ absurd (omega (arith, kept.linked m k before.1, newest k new.1))
            ]
            | inr new ↦ elim (row_of rows row n k other) [
              | inl earlier ↦ absurd (omega (arith, kept.linked n k earlier.1, newest k new.1))
              | inr last ↦ omega (arith, new.0, last.0)
            ]
          ];
          within = λ k less. elim (leb_tells (length elements) k) [
            | inl behind ↦
                let same : k ≡ length elements = omega (arith, behind.1, less, more) in
                rw (same, new_own, first, counted) (omega (arith, longer))
            | inr before ↦ rw (own_stays k before.1) (omega (arith, longer, kept.within k before.1))
          ];
        },
      )

  -- ---- another row of an element

  module _ (number k : ℕ) (own : ElementRow) (there : number < length rows) (is : element_of (row_in number rows) ≡ Some k) where
    lines_set : lines_kept texts attributes rows (slice_set elements k own)
        ≡ slice_set (lines_kept texts attributes rows elements) number (line_of_element attributes (get_or texts number []) (row_in number rows).spot own)
    lines_set =
        let f = line_kept texts attributes rows elements in
        let g = line_kept texts attributes rows (slice_set elements k own) in
        let l = line_of_element attributes (get_or texts number []) (row_in number rows).spot own in
        let old = length-map-range_with_len f 0 (length rows) in
        let new = length-map-range_with_len g 0 (length rows) in
        let lines = lines_kept texts attributes rows elements in
        let here : g number ≡ l = rw (is, get_or-set_same elements k own _ (kept.linked number k is)) refl in
        let set : get_or (slice_set lines number l) number (f 0) ≡ l = get_or-set_same lines number l (f 0) (omega (arith, there, old)) in
        let each : (n : ℕ) → n < length rows → g n ≡ get_or (slice_set lines number l) n (f 0) = λ n inside. elim (eqb_tells n number) [
          | inl same ↦ ap g same.1 ∙ here ∙ sym set ∙ ap (λ i. get_or (slice_set lines number l) i (f 0)) (sym same.1)
          | inr other ↦
              line_stays texts texts attributes attributes rows rows elements (slice_set elements k own) n refl refl (λ j name spot its.
              ap (line_of_element attributes name spot) (get_or-set_other elements k j own _ (λ same. other.1 (kept.once n number k (its ∙ ap Some same) is))))
              ∙ sym (get_or-set_other lines number n l (f 0) other.1 ∙ get_or-map-range_with_len f 0 (length rows) n n (f 0) inside (omega arith))
        ] in
        ext_get_or (f 0) _ _ (new ∙ sym (length-set lines number l ∙ old)) (λ n less.
        let inside : n < length rows = omega (arith, less, new) in
        get_or-map-range_with_len g 0 (length rows) n n (f 0) inside (omega arith) ∙ each n inside)

    pub kept_set : own.attributes ≡ (element_in k elements).attributes → own.attribute_count ≡ (element_in k elements).attribute_count
        → AreTableRows texts attributes rows (slice_set elements k own)
    kept_set first counted =
        let many : length (slice_set elements k own) ≡ length elements = length-set elements k own in
        record {
          text = kept.text;
          linked = λ n j here. omega (arith, many, kept.linked n j here);
          once = kept.once;
          within = λ j less. elim (eqb_tells j k) [
            | inl same ↦ rw (same.1, get_or-set_same elements k own _ (kept.linked number k is), first, counted) (kept.within k (kept.linked number k is))
            | inr other ↦ rw (get_or-set_other elements k j own _ other.1) (kept.within j (omega (arith, less, many)))
          ];
        }

-- the end of an element, or the number of its children
module _ (t : Inside) (ls : List Line) (n k : ℕ) (own : ElementRow) (kept : AreTableRows t.texts t.attributes t.rows.items t.elements.items)
    (are : lines_kept t.texts t.attributes t.rows.items t.elements.items ≡ ls) (less : n < length ls) (is : element_of (row_in n t.rows.items) ≡ Some k)
    (value : own ≡ get_or t.elements.items k own) where
  inside : n < length t.rows.items
  inside = omega (arith, less, ap length are, lines_count t.texts t.attributes t.rows.items t.elements.items)

  its : element_in k t.elements.items ≡ own
  its = get_or_default t.elements.items k _ own (kept.linked n k is) ∙ sym value

  pub line_ended : (end : ℕ) → (lines_kept t.texts t.attributes t.rows.items (slice_set t.elements.items k (record own { end = end })) ≡ with_line_end n end ls)
      × AreTableRows t.texts t.attributes t.rows.items (slice_set t.elements.items k (record own { end = end }))
  line_ended end = (
    lines_set t.texts t.attributes t.rows.items t.elements.items kept n k (record own { end = end }) inside is
        ∙ rw (element_there t ls n are less k is, its, are) refl,
    kept_set t.texts t.attributes t.rows.items t.elements.items kept n k (record own { end = end }) inside is
        (ap (λ e. e.attributes) (sym its)) (ap (λ e. e.attribute_count) (sym its)),
  )

  pub line_counted : (many : ℕ) → (lines_kept t.texts t.attributes t.rows.items (slice_set t.elements.items k (record own { children = many })) ≡ with_line_children n many ls)
      × AreTableRows t.texts t.attributes t.rows.items (slice_set t.elements.items k (record own { children = many }))
  line_counted many = (
    lines_set t.texts t.attributes t.rows.items t.elements.items kept n k (record own { children = many }) inside is
        ∙ rw (element_there t ls n are less k is, its, are) refl,
    kept_set t.texts t.attributes t.rows.items t.elements.items kept n k (record own { children = many }) inside is
        (ap (λ e. e.attributes) (sym its)) (ap (λ e. e.attribute_count) (sym its)),
  )

-- a text has neither
unended : (l : Line) (end : ℕ) → l.name ≡ None → record l { end = option_map_or (λ _. end) l.name l.end } ≡ l
unended l end is = rw is refl

uncounted : (l : Line) (many : ℕ) → l.name ≡ None → record l { children = option_map_or (λ _. many) l.name l.children } ≡ l
uncounted l many is = rw is refl

module _ (t : Inside) (ls : List Line) (n : ℕ) (are : lines_kept t.texts t.attributes t.rows.items t.elements.items ≡ ls) (less : n < length ls)
    (is : element_of (row_in n t.rows.items) ≡ None) where
  no_name : (line_in n ls).name ≡ None
  no_name = ap (λ l. l.name) (text_there t ls n are less is)

  pub text_ended : (end : ℕ) → ls ≡ with_line_end n end ls
  text_ended end = sym (ap (slice_set ls n) (unended (line_in n ls) end no_name) ∙ set-get_or ls n _)

  pub text_counted : (many : ℕ) → ls ≡ with_line_children n many ls
  text_counted many = sym (ap (slice_set ls n) (uncounted (line_in n ls) many no_name) ∙ set-get_or ls n _)
