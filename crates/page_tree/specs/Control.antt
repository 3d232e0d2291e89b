-- What a node is to a form: its control, its start text and its start state (HTML 4.01, section 17.13.2, and this
-- project's own table).
use Rattle.std.specs.Prelude.{ℕ, List, [], ◌++◌, Bool, true, false, ◌&&◌, ◌||◌, if◌then◌else◌, Option, Some, None, is_some, unwrap_or, option_and_then, codes}
use Rattle.std.specs.Option.{option_map_or}
use Rattle.std.specs.Str.{bytes_eq, str_eq_ignore_ascii_case}
use Rattle.page_tree.specs.Tree.{Attribute, Tree, element, words, Trees, no_trees, tree}
use Rattle.page_tree.specs.Look.{node_at, value_of, words_of}
use Rattle.page_tree.specs.declared.control.Control.{Control}
use Rattle.page_tree.specs.declared.control.Control.TheVariants.{Text, Check, Radio, Submit, Link, Form, Other}

-- ---- the control

-- an `input`, by its `type`
unfoldable pub input_control : Option (List ℕ) → Control
input_control None = Text
input_control (Some kind) =
    if str_eq_ignore_ascii_case kind (codes "checkbox") then Check else
    (if str_eq_ignore_ascii_case kind (codes "radio") then Radio else
    (if str_eq_ignore_ascii_case kind (codes "submit") then Submit else
    (if str_eq_ignore_ascii_case kind (codes "image") || str_eq_ignore_ascii_case kind (codes "file")
    || str_eq_ignore_ascii_case kind (codes "reset") || str_eq_ignore_ascii_case kind (codes "button")
    then Other else Text)))

-- a `button`, by its `type`
unfoldable pub button_control : Option (List ℕ) → Control
button_control None = Submit
button_control (Some kind) =
    if str_eq_ignore_ascii_case kind (codes "reset") || str_eq_ignore_ascii_case kind (codes "button")
    then Other else Submit

unfoldable pub element_control : List ℕ → List Attribute → Control
element_control name attributes =
    if bytes_eq name (codes "input") then input_control (value_of (codes "type") attributes) else
    (if bytes_eq name (codes "textarea") || bytes_eq name (codes "select") then Text else
    (if bytes_eq name (codes "button") then button_control (value_of (codes "type") attributes) else
    (if bytes_eq name (codes "a") || bytes_eq name (codes "area")
    then (if is_some (value_of (codes "href") attributes) then Link else Other) else
    (if bytes_eq name (codes "form") then Form else Other))))

abbrev pub control_of : Tree → Control
control_of (element name attributes children) = element_control name attributes
control_of (words text) = Other

-- Other where no node is
abbrev pub control_at : List ℕ → Tree → Control
control_at place t = option_map_or control_of (node_at place t) Other

-- ---- the start text

abbrev pub is_text : Control → Bool
is_text Text = true
is_text _ = false

-- the texts among the children, joined
abbrev pub child_texts : Trees → List ℕ
child_texts no_trees = []
child_texts (tree t ts) = words_of t ++ child_texts ts

-- a `textarea` starts with its child texts, an `input` and a `select` with their `value`, empty if absent
abbrev pub start_text : List ℕ → List Attribute → Trees → List ℕ
start_text name attributes children =
    if bytes_eq name (codes "textarea") then child_texts children
    else unwrap_or (value_of (codes "value") attributes) []

abbrev pub start_text_of : Tree → Option (List ℕ)
start_text_of (element name attributes children) =
    if is_text (element_control name attributes) then Some (start_text name attributes children) else None
start_text_of (words text) = None

-- some text exactly at a Text control
abbrev pub start_text_at : List ℕ → Tree → Option (List ℕ)
start_text_at place t = option_and_then start_text_of (node_at place t)

-- ---- the start state

-- a control that is on or off
abbrev pub is_switch : Control → Bool
is_switch Check = true
is_switch Radio = true
is_switch _ = false

abbrev pub start_checked_of : Tree → Bool
start_checked_of (element name attributes children) =
    is_switch (element_control name attributes) && is_some (value_of (codes "checked") attributes)
start_checked_of (words text) = false

-- on at a Check or Radio that has `checked`
abbrev pub start_checked_at : List ℕ → Tree → Bool
start_checked_at place t = option_map_or start_checked_of (node_at place t) false
