-- What is sent tells a link and a form.
use Rattle.std.proofs.Common.{◌≡◌, ◌≢◌, ℕ, List, [], ◌∷◌, ◌++◌, map, Bool, true, false, ◌||◌, if◌then◌else◌, is_some, unwrap_or, codes, Option, Some, None, option_map, ◌⊎◌, inl, inr, refl, sym, ap, ◌∙◌}
use Rattle.std.specs.List.{cons_option}
use Rattle.std.specs.Str.{bytes_eq, str_eq_ignore_ascii_case}
use Rattle.page_tree.specs.Tree.{Attribute, Tree, element, words, Trees}
use Rattle.page_tree.specs.Look.{value_of, attributes_of, children_of}
use Rattle.page_tree.specs.Control.{control_of, element_control, input_control, button_control, is_text}
use Rattle.page_tree.specs.declared.control.Control.{Control}
use Rattle.page_tree.specs.declared.control.Control.TheVariants as control
use Rattle.page_looks.specs.Outline.{is_one_of, those_named}
use Rattle.page_looks.specs.Sending.{without_fresh, addresses_named, sent, sent_by_form, sent_by_control, posts, untouched_pairs, unseen_in}
use Rattle.page_looks.proofs.CounterpartLaws.{bytes_one, bytes_same}

abbrev pub first_name : List Attribute → List ℕ
first_name [] = []
first_name (a ∷ rest) = a.0

abbrev first_value : List Attribute → List ℕ
first_value [] = []
first_value (a ∷ rest) = a.1

abbrev behind_first : List Attribute → List Attribute
behind_first [] = []
behind_first (a ∷ rest) = rest

-- ---- one of several

abbrev chosen : Bool → Bool → Bool → Bool → List Attribute → List Attribute → List Attribute → List Attribute → List Attribute
chosen a b c d xs ys zs ws = if a then xs else (if b then ys else (if c then zs else (if d then ws else [])))

first_chosen : (a b c d : Bool) (xs ys zs ws : List Attribute) (mark : List ℕ) → ([] ≢ mark) → first_name ys ≢ mark → first_name zs ≢ mark → first_name ws ≢ mark
    → first_name (chosen a b c d xs ys zs ws) ≡ mark → chosen a b c d xs ys zs ws ≡ xs
first_chosen true b c d xs ys zs ws mark none second third fourth is = refl
first_chosen false true c d xs ys zs ws mark none second third fourth is = absurd (second is)
first_chosen false false true d xs ys zs ws mark none second third fourth is = absurd (third is)
first_chosen false false false true xs ys zs ws mark none second third fourth is = absurd (fourth is)
first_chosen false false false false xs ys zs ws mark none second third fourth is = absurd (none is)

third_chosen : (a b c d : Bool) (xs ys zs ws : List Attribute) (mark : List ℕ) → ([] ≢ mark) → first_name xs ≢ mark → first_name ys ≢ mark → first_name ws ≢ mark
    → first_name (chosen a b c d xs ys zs ws) ≡ mark → chosen a b c d xs ys zs ws ≡ zs
third_chosen true b c d xs ys zs ws mark none first second fourth is = absurd (first is)
third_chosen false true c d xs ys zs ws mark none first second fourth is = absurd (second is)
third_chosen false false true d xs ys zs ws mark none first second fourth is = refl
third_chosen false false false true xs ys zs ws mark none first second fourth is = absurd (fourth is)
third_chosen false false false false xs ys zs ws mark none first second fourth is = absurd (none is)

abbrev without_in : List (List ℕ) → List Attribute → List Attribute
without_in fresh told = map (λ a. (a.0, without_fresh fresh a.1)) told

-- ---- what a control sends begins with one of these names

abbrev under : List ℕ → Option (List ℕ) → List Attribute → List Attribute
under name value rest = cons_option (option_map (λ v. (name, v)) value) rest

one_under : (name mark : List ℕ) (value : Option (List ℕ)) → ([] ≢ mark) → name ≢ mark → first_name (under name value []) ≢ mark
one_under name mark None none other = none
one_under name mark (Some v) none other = other

fresh_under : (fresh : List (List ℕ)) (name mark : List ℕ) (value : Option (List ℕ)) → ([] ≢ mark) → name ≢ mark
    → first_name (map (λ a. (a.0, without_fresh fresh a.1)) (under name value [])) ≢ mark
fresh_under fresh name mark None none other = none
fresh_under fresh name mark (Some v) none other = other

control_under : (fresh : List (List ℕ)) (mark : List ℕ) (name method action value : Option (List ℕ)) (text : Bool) → ([] ≢ mark) → codes "name" ≢ mark → codes "formmethod" ≢ mark
    → codes "formaction" ≢ mark → codes "value" ≢ mark
    → first_name (under (codes "name") name (under (codes "formmethod") method []) ++ map (λ a. (a.0, without_fresh fresh a.1)) (under (codes "formaction") action [])
    ++ (if text then [] else under (codes "value") value [])) ≢ mark
control_under fresh mark (Some n) method action value text none a b c d = a
control_under fresh mark None (Some m) action value text none a b c d = b
control_under fresh mark None None (Some f) value text none a b c d = c
control_under fresh mark None None None value true none a b c d = none
control_under fresh mark None None None None false none a b c d = none
control_under fresh mark None None None (Some v) false none a b c d = d

pub apart : (xs ys : List ℕ) → bytes_eq xs ys ≡ false → xs ≢ ys
apart xs ys is same = let both : false ≡ true = sym is ∙ bytes_same xs ys same in cc

control_first : (fresh : List (List ℕ)) (mark name : List ℕ) (attributes : List Attribute) → ([] ≢ mark) → codes "name" ≢ mark → codes "formmethod" ≢ mark → codes "formaction" ≢ mark
    → codes "value" ≢ mark → first_name (sent_by_control fresh name attributes) ≢ mark
control_first fresh mark name attributes =
    control_under fresh mark (value_of (codes "name") attributes) (value_of (codes "formmethod") attributes) (value_of (codes "formaction") attributes) (value_of (codes "value") attributes)
    (is_text (element_control name attributes))

-- ---- a link

pub link_sends : (fresh : List (List ℕ)) (t : Tree) → first_name (sent fresh t) ≡ codes "href" → sent fresh t ≡ addresses_named fresh (codes "href" ∷ []) (attributes_of t)
link_sends fresh (words text) is = absurd (apart [] (codes "href") refl is)
link_sends fresh (element name attributes children) is =
    let mark = codes "href" in
    third_chosen (bytes_eq name (codes "form")) (is_one_of (codes "input" ∷ codes "button" ∷ codes "select" ∷ codes "textarea" ∷ []) name) (is_one_of (codes "a" ∷ codes "area" ∷ []) name)
    (bytes_eq name (codes "option")) (sent_by_form fresh attributes children) (sent_by_control fresh name attributes) (addresses_named fresh (codes "href" ∷ []) attributes)
    (those_named (codes "value" ∷ []) attributes) mark (apart [] mark refl) (apart (codes "method") mark refl)
    (control_first fresh mark name attributes (apart [] mark refl) (apart (codes "name") mark refl) (apart (codes "formmethod") mark refl) (apart (codes "formaction") mark refl)
    (apart (codes "value") mark refl))
    (one_under (codes "value") mark (value_of (codes "value") attributes) (apart [] mark refl) (apart (codes "value") mark refl)) is

-- what it sends tells its address
pub address_told : (fresh : List (List ℕ)) (xs ys : List Attribute) → addresses_named fresh (codes "href" ∷ []) xs ≡ addresses_named fresh (codes "href" ∷ []) ys
    → option_map (without_fresh fresh) (value_of (codes "href") xs) ≡ option_map (without_fresh fresh) (value_of (codes "href") ys)
address_told fresh xs ys = go (value_of (codes "href") xs) (value_of (codes "href") ys)
  where
    go : (v w : Option (List ℕ)) → without_in fresh (under (codes "href") v []) ≡ without_in fresh (under (codes "href") w []) → option_map (without_fresh fresh) v ≡ option_map (without_fresh fresh) w
    go None None same = refl
    go None (Some w) same = cc
    go (Some v) None same = cc
    go (Some v) (Some w) same = ap (λ told. Some (first_value told)) same

-- ---- controls by names

abbrev kind_by : Bool → Bool → Bool → Bool → Control
kind_by a b c d = if a then control.Check else (if b then control.Radio else (if c then control.Submit else (if d then control.Other else control.Text)))

input_other : (o : Option (List ℕ)) → (input_control o ≢ control.Link) × (input_control o ≢ control.Form)
unfolding input_control
input_other None = (λ is. cc, λ is. cc)
input_other (Some kind) =
    go (str_eq_ignore_ascii_case kind (codes "checkbox")) (str_eq_ignore_ascii_case kind (codes "radio")) (str_eq_ignore_ascii_case kind (codes "submit"))
    (str_eq_ignore_ascii_case kind (codes "image") || str_eq_ignore_ascii_case kind (codes "file") || str_eq_ignore_ascii_case kind (codes "reset") || str_eq_ignore_ascii_case kind (codes "button"))
  where
    go : (a b c d : Bool) → (kind_by a b c d ≢ control.Link) × (kind_by a b c d ≢ control.Form)
    go true b c d = (λ is. cc, λ is. cc)
    go false true c d = (λ is. cc, λ is. cc)
    go false false true d = (λ is. cc, λ is. cc)
    go false false false true = (λ is. cc, λ is. cc)
    go false false false false = (λ is. cc, λ is. cc)

button_other : (o : Option (List ℕ)) → (button_control o ≢ control.Link) × (button_control o ≢ control.Form)
unfolding button_control
button_other None = (λ is. cc, λ is. cc)
button_other (Some kind) = go (str_eq_ignore_ascii_case kind (codes "reset") || str_eq_ignore_ascii_case kind (codes "button"))
  where
    go : (a : Bool) → ((if a then control.Other else control.Submit) ≢ control.Link) × ((if a then control.Other else control.Submit) ≢ control.Form)
    go true = (λ is. cc, λ is. cc)
    go false = (λ is. cc, λ is. cc)

abbrev control_by : Bool → Control → Bool → Bool → Control → Bool → Bool → Bool → Control
control_by i input text b button l href f =
    if i then input else (if text then control.Text else (if b then button else (if l then (if href then control.Link else control.Other) else (if f then control.Form else control.Other))))

link_by : (i : Bool) (input : Control) (text b : Bool) (button : Control) (l href f : Bool) → input ≢ control.Link → button ≢ control.Link → control_by i input text b button l href f ≡ control.Link
    → (l ≡ true) × (href ≡ true)
link_by true input text b button l href f x y is = absurd (x is)
link_by false input true b button l href f x y is = cc
link_by false input false true button l href f x y is = absurd (y is)
link_by false input false false button true true f x y is = (refl, refl)
link_by false input false false button true false f x y is = cc
link_by false input false false button false href true x y is = cc
link_by false input false false button false href false x y is = cc

form_by : (i : Bool) (input : Control) (text b : Bool) (button : Control) (l href f : Bool) → input ≢ control.Form → button ≢ control.Form → control_by i input text b button l href f ≡ control.Form → f ≡ true
form_by true input text b button l href f x y is = absurd (x is)
form_by false input true b button l href f x y is = cc
form_by false input false true button l href f x y is = absurd (y is)
form_by false input false false button true true f x y is = cc
form_by false input false false button true false f x y is = cc
form_by false input false false button false href true x y is = refl
form_by false input false false button false href false x y is = cc

link_named : (name : List ℕ) (attributes : List Attribute) → element_control name attributes ≡ control.Link
    → ((bytes_eq name (codes "a") || bytes_eq name (codes "area")) ≡ true) × (is_some (value_of (codes "href") attributes) ≡ true)
unfolding element_control
link_named name attributes is =
    let kind = value_of (codes "type") attributes in
    link_by (bytes_eq name (codes "input")) (input_control kind) (bytes_eq name (codes "textarea") || bytes_eq name (codes "select")) (bytes_eq name (codes "button")) (button_control kind)
    (bytes_eq name (codes "a") || bytes_eq name (codes "area")) (is_some (value_of (codes "href") attributes)) (bytes_eq name (codes "form")) (input_other kind).0 (button_other kind).0 is

form_named : (name : List ℕ) (attributes : List Attribute) → element_control name attributes ≡ control.Form → name ≡ codes "form"
unfolding element_control
form_named name attributes is =
    let kind = value_of (codes "type") attributes in
    bytes_one name (codes "form")
    (form_by (bytes_eq name (codes "input")) (input_control kind) (bytes_eq name (codes "textarea") || bytes_eq name (codes "select")) (bytes_eq name (codes "button")) (button_control kind)
    (bytes_eq name (codes "a") || bytes_eq name (codes "area")) (is_some (value_of (codes "href") attributes)) (bytes_eq name (codes "form")) (input_other kind).1 (button_other kind).1 is)

one_or_other : (a b : Bool) → (a || b) ≡ true → (a ≡ true) ⊎ (b ≡ true)
one_or_other true b is = inl refl
one_or_other false b is = inr is

address_first : (fresh : List (List ℕ)) (attributes : List Attribute) → is_some (value_of (codes "href") attributes) ≡ true → first_name (addresses_named fresh (codes "href" ∷ []) attributes) ≡ codes "href"
address_first fresh attributes = go (value_of (codes "href") attributes)
  where
    go : (o : Option (List ℕ)) → is_some o ≡ true → first_name (map (λ a. (a.0, without_fresh fresh a.1)) (under (codes "href") o [])) ≡ codes "href"
    go None is = cc
    go (Some v) is = refl

-- a link sends its address first
pub link_first : (fresh : List (List ℕ)) (t : Tree) → control_of t ≡ control.Link → first_name (sent fresh t) ≡ codes "href"
link_first fresh (words text) is = cc
link_first fresh (element name attributes children) is =
    let named = link_named name attributes is in
    elim (one_or_other (bytes_eq name (codes "a")) (bytes_eq name (codes "area")) named.0) [
      | inl a ↦ rw (bytes_one name (codes "a") a) (address_first fresh attributes named.1)
      | inr area ↦ rw (bytes_one name (codes "area") area) (address_first fresh attributes named.1)
    ]

-- ---- a form

pub form_sends : (fresh : List (List ℕ)) (t : Tree) → first_name (sent fresh t) ≡ codes "method" → sent fresh t ≡ sent_by_form fresh (attributes_of t) (children_of t)
form_sends fresh (words text) is = absurd (apart [] (codes "method") refl is)
form_sends fresh (element name attributes children) is =
    let mark = codes "method" in
    first_chosen (bytes_eq name (codes "form")) (is_one_of (codes "input" ∷ codes "button" ∷ codes "select" ∷ codes "textarea" ∷ []) name) (is_one_of (codes "a" ∷ codes "area" ∷ []) name)
    (bytes_eq name (codes "option")) (sent_by_form fresh attributes children) (sent_by_control fresh name attributes) (addresses_named fresh (codes "href" ∷ []) attributes)
    (those_named (codes "value" ∷ []) attributes) mark (apart [] mark refl)
    (control_first fresh mark name attributes (apart [] mark refl) (apart (codes "name") mark refl) (apart (codes "formmethod") mark refl) (apart (codes "formaction") mark refl)
    (apart (codes "value") mark refl))
    (fresh_under fresh (codes "href") mark (value_of (codes "href") attributes) (apart [] mark refl) (apart (codes "href") mark refl))
    (one_under (codes "value") mark (value_of (codes "value") attributes) (apart [] mark refl) (apart (codes "value") mark refl)) is

pub form_first : (fresh : List (List ℕ)) (t : Tree) → control_of t ≡ control.Form → first_name (sent fresh t) ≡ codes "method"
form_first fresh (words text) is = cc
form_first fresh (element name attributes children) is = rw (form_named name attributes is) refl

-- what it sends tells whether it posts, its action, and what nobody sees
pub form_told : (fresh : List (List ℕ)) (xs ys : List Attribute) (ts us : Trees) → sent_by_form fresh xs ts ≡ sent_by_form fresh ys us
    → (posts xs ≡ posts ys) × (without_fresh fresh (unwrap_or (value_of (codes "action") xs) []) ≡ without_fresh fresh (unwrap_or (value_of (codes "action") ys) []))
    × (untouched_pairs fresh (unseen_in false ts) ≡ untouched_pairs fresh (unseen_in false us))
form_told fresh xs ys ts us same =
    let method : (if posts xs then codes "post" else []) ≡ (if posts ys then codes "post" else []) = ap first_value same in
    (same_method (posts xs) (posts ys) method, ap (λ told. first_value (behind_first told)) same, ap (λ told. behind_first (behind_first told)) same)
  where
    same_method : (a b : Bool) → (if a then codes "post" else []) ≡ (if b then codes "post" else []) → a ≡ b
    same_method true true is = refl
    same_method true false is = absurd (apart (codes "post") [] refl is)
    same_method false true is = absurd (apart [] (codes "post") refl is)
    same_method false false is = refl
