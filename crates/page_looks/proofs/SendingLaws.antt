-- What is told of what an element sends.
use Rattle.std.proofs.Common.{◌≡◌, ℕ, List, [], ◌∷◌, ◌++◌, filter, not, Bool, true, false, if◌then◌else◌, codes, Option, Some, None, option_and_then, is_some, unwrap_or, refl, sym, ◌∙◌, ap, append_assoc}
use Rattle.std.specs.List.{filter_map}
use Rattle.std.specs.Option.{option_map_or}
use Rattle.std.proofs.lemmas.List.Elements.{filter-append, filter_map-append}
use Rattle.page_tree.specs.Tree.{Attribute, Tree, element, words}
use Rattle.page_tree.specs.Look.{node_at, attributes_of, value_of, name_of, attribute_at}
use Rattle.page_tree.specs.Control.{control_of, element_control, is_text, start_text_of, start_text_at, start_checked_of, start_checked_at}
use Rattle.page_tree.specs.declared.control.Control.{Control}
use Rattle.page_tree.specs.declared.control.Control.TheVariants as control
use Rattle.page_looks.specs.Outline.{is_one_of, those_named}
use Rattle.page_looks.specs.Sending.{addresses_named, sent_by_control, untouched_value, untouched_pair, is_control_disabled, untouched_pairs}
use Rattle.page_looks.proofs.NumberingLaws.{one_told}

-- ---- lists of controls

pub pairs_append : (fresh : List (List ℕ)) (xs ys : List Tree) → untouched_pairs fresh (xs ++ ys) ≡ untouched_pairs fresh xs ++ untouched_pairs fresh ys
pairs_append fresh xs ys =
    ap (filter (λ pair. not (is_one_of ([] ∷ fresh) pair.0))) (filter_map-append untouched_pair xs ys)
    ∙ filter-append (λ pair. not (is_one_of ([] ∷ fresh) pair.0)) (filter_map untouched_pair xs) (filter_map untouched_pair ys)

-- ---- a form, and a control

pub form_told : (told one two last rest : List Attribute) (m a : Attribute) → one ≡ told ++ m ∷ [] → two ≡ one ++ a ∷ [] → last ≡ two ++ rest
    → last ≡ told ++ m ∷ a ∷ rest
form_told told one two last rest m a first second third =
    third ∙ ap (λ l. l ++ rest) (second ∙ ap (λ l. l ++ a ∷ []) first) ∙ append_assoc (told ++ m ∷ []) (a ∷ []) rest ∙ append_assoc told (m ∷ []) (a ∷ rest)

pub three_told : (told one two three last xs ys zs ws : List Attribute) → one ≡ told ++ xs → two ≡ one ++ ys → three ≡ two ++ zs → last ≡ three ++ ws
    → last ≡ told ++ (((xs ++ ys) ++ zs) ++ ws)
three_told told one two three last xs ys zs ws a b c d =
    let front : three ≡ told ++ ((xs ++ ys) ++ zs) =
    c ∙ ap (λ l. l ++ zs) (b ∙ ap (λ l. l ++ ys) a ∙ append_assoc told xs ys) ∙ append_assoc told (xs ++ ys) zs in
    d ∙ ap (λ l. l ++ ws) front ∙ append_assoc told ((xs ++ ys) ++ zs) ws

pub two_named : (a b : List ℕ) (attributes : List Attribute) → those_named (a ∷ b ∷ []) attributes ≡ those_named (a ∷ []) attributes ++ those_named (b ∷ []) attributes
two_named a b attributes = one_told a (b ∷ []) attributes

-- the control of an element of that name
pub control_there : (o : Option Tree) (name : List ℕ) → option_and_then name_of o ≡ Some name
    → option_map_or control_of o control.Other ≡ element_control name (option_map_or attributes_of o [])
control_there None name is = cc
control_there (Some (element own attributes children)) name is =
    let one : own ≡ name = cc in
    ap (λ n. element_control n attributes) one
control_there (Some (words text)) name is = cc

pub told_unless_text : (kind : Control) (values : List Attribute) → (kind ≡ control.Text → ⊥) → (if is_text kind then [] else values) ≡ values
told_unless_text control.Text values other = absurd (other refl)
told_unless_text control.Check values other = refl
told_unless_text control.Radio values other = refl
told_unless_text control.Submit values other = refl
told_unless_text control.Link values other = refl
told_unless_text control.Form values other = refl
told_unless_text control.Other values other = refl

pub control_told : (fresh : List (List ℕ)) (name : List ℕ) (attributes : List Attribute) (kind : Control) (told one two three last : List Attribute)
    → kind ≡ element_control name attributes → one ≡ told ++ those_named (codes "name" ∷ []) attributes
    → two ≡ one ++ those_named (codes "formmethod" ∷ []) attributes → three ≡ two ++ addresses_named fresh (codes "formaction" ∷ []) attributes
    → last ≡ three ++ (if is_text kind then [] else those_named (codes "value" ∷ []) attributes) → last ≡ told ++ sent_by_control fresh name attributes
control_told fresh name attributes kind told one two three last is first second third further =
    let names : List Attribute = those_named (codes "name" ∷ []) attributes in
    let methods : List Attribute = those_named (codes "formmethod" ∷ []) attributes in
    let actions : List Attribute = addresses_named fresh (codes "formaction" ∷ []) attributes in
    let values : List Attribute = those_named (codes "value" ∷ []) attributes in
    let kept : List Attribute = if is_text (element_control name attributes) then [] else values in
    let written : last ≡ three ++ kept = further ∙ ap (λ k. three ++ (if is_text k then [] else values)) is in
    three_told told one two three last names methods actions kept first second third written
    ∙ ap (λ l. told ++ ((l ++ actions) ++ kept)) (sym (two_named (codes "name") (codes "formmethod") attributes))

-- ---- the pair of one control

pub attribute_there : (page m : Tree) (place name : List ℕ) → node_at place page ≡ Some m → attribute_at place name page ≡ value_of name (attributes_of m)
attribute_there page m place name is = rw is refl

pub no_pair : (fresh : List (List ℕ)) (m : Tree) → untouched_pair m ≡ None → untouched_pairs fresh (m ∷ []) ≡ []
no_pair fresh m is = rw is refl

pub one_pair : (fresh : List (List ℕ)) (m : Tree) (name value : List ℕ) → untouched_pair m ≡ Some (name, value) → is_one_of ([] ∷ fresh) name ≡ false
    → untouched_pairs fresh (m ∷ []) ≡ (name, value) ∷ []
one_pair fresh m name value is kept = rw is (rw kept refl)

pair_left_out : (fresh : List (List ℕ)) (m : Tree) (name value : List ℕ) → untouched_pair m ≡ Some (name, value) → is_one_of ([] ∷ fresh) name ≡ true
    → untouched_pairs fresh (m ∷ []) ≡ []
pair_left_out fresh m name value is left = rw is (rw left refl)

abbrev none_of : Option Attribute
none_of = None

either_none : (b : Bool) → (if b then none_of else none_of) ≡ none_of
either_none true = refl
either_none false = refl

pub unnamed_pair : (m : Tree) → value_of (codes "name") (attributes_of m) ≡ None → untouched_pair m ≡ None
unnamed_pair m is = rw is (either_none (is_control_disabled m))

pub disabled_pair : (m : Tree) → is_some (value_of (codes "disabled") (attributes_of m)) ≡ true → untouched_pair m ≡ None
disabled_pair m is = rw is refl

pub valueless_pair : (m : Tree) (name : List ℕ) → value_of (codes "name") (attributes_of m) ≡ Some name → untouched_value m ≡ None → untouched_pair m ≡ None
valueless_pair m name is none = rw (is, none) (either_none (is_control_disabled m))

pub named_pair : (m : Tree) (name value : List ℕ) → is_some (value_of (codes "disabled") (attributes_of m)) ≡ false
    → value_of (codes "name") (attributes_of m) ≡ Some name → untouched_value m ≡ Some value → untouched_pair m ≡ Some (name, value)
named_pair m name value enabled is some = rw (enabled, is, some) refl

-- one of an empty or a fresh name is left out, whatever its value
pub left_out : (fresh : List (List ℕ)) (m : Tree) (name : List ℕ) → value_of (codes "name") (attributes_of m) ≡ Some name → is_one_of ([] ∷ fresh) name ≡ true
    → untouched_pairs fresh (m ∷ []) ≡ []
left_out fresh m name is left = go (is_some (value_of (codes "disabled") (attributes_of m))) refl (untouched_value m) refl
  where
    go : (b : Bool) → is_some (value_of (codes "disabled") (attributes_of m)) ≡ b → (o : Option (List ℕ)) → untouched_value m ≡ o
        → untouched_pairs fresh (m ∷ []) ≡ []
    go true disabled o value = no_pair fresh m (disabled_pair m disabled)
    go false enabled None value = no_pair fresh m (valueless_pair m name is value)
    go false enabled (Some v) value = pair_left_out fresh m name v (named_pair m name v enabled is value) left

-- ---- the value in it

pub text_value : (page m : Tree) (place text : List ℕ) → node_at place page ≡ Some m → start_text_at place page ≡ Some text → untouched_value m ≡ Some text
text_value page m place text is start =
    let own : start_text_of m ≡ Some text = rw is at start in
    rw own refl

pub checked_value : (page m : Tree) (place : List ℕ) (value : Option (List ℕ)) → node_at place page ≡ Some m → start_text_at place page ≡ None
    → start_checked_at place page ≡ true → attribute_at place (codes "value") page ≡ value → untouched_value m ≡ Some (unwrap_or value (codes "on"))
checked_value page m place value is start checked there =
    let own : start_text_of m ≡ None = rw is at start in
    let on : start_checked_of m ≡ true = rw is at checked in
    let written : value_of (codes "value") (attributes_of m) ≡ value = rw is at there in
    rw (own, on, written) refl

pub no_value : (page m : Tree) (place : List ℕ) → node_at place page ≡ Some m → start_text_at place page ≡ None → start_checked_at place page ≡ false
    → untouched_value m ≡ None
no_value page m place is start unchecked =
    let own : start_text_of m ≡ None = rw is at start in
    let off : start_checked_of m ≡ false = rw is at unchecked in
    rw (own, off) refl
