-- What the elements of a page ask for and send, as far as the page alone tells it (HTML 4.01, section 17.13), without
-- what differs at each load: the values of fresh names, which are declared.
use Rattle.std.specs.Prelude.{ℕ, List, [], ◌∷◌, ◌++◌, map, filter, flat_map, Bool, false, not, ◌||◌, ◌==◌, if◌then◌else◌, drop, Option, Some, None, is_some, unwrap_or, option_map, option_and_then, codes}
use Rattle.std.specs.List.{list_any, filter_map, position_or_len, before_first, after_first, slice_split}
use Rattle.std.specs.Option.{option_or, option_map_or}
use Rattle.std.specs.Str.{bytes_eq, str_eq_ignore_ascii_case}
use Rattle.std.specs.Str.Lossy.{utf8_lossy}
use Rattle.form_urlencoded.specs.Form.{decode}
use Rattle.page_tree.specs.Tree.{Attribute, Tree, element, words, Trees, no_trees, tree}
use Rattle.page_tree.specs.Look.{value_of, attributes_of}
use Rattle.page_tree.specs.Control.{element_control, is_text, start_text_of, start_checked_of}
use Rattle.page_looks.specs.Outline.{is_one_of, those_named, is_seen, outline}

-- ---- an address

-- the name of a pair that is written `name=value`, decoded (URL Standard, section 5.1): `t%5B+%5D` is `t[ ]`
abbrev pub pair_name : List ℕ → List ℕ
pair_name pair = utf8_lossy (decode (before_first (λ c. c == 61) pair))

-- a pair doesn't count that is empty (URL Standard, section 5.1), or has a fresh name
abbrev pub is_passed_over : List (List ℕ) → List ℕ → Bool
is_passed_over fresh pair = bytes_eq pair [] || is_one_of fresh (pair_name pair)

-- the pairs of a query that count, as they are written
abbrev pub kept_pairs : List (List ℕ) → List ℕ → List (List ℕ)
kept_pairs fresh query = filter (λ pair. not (is_passed_over fresh pair)) (slice_split (λ c. c == 38) query)

abbrev pub next_pairs : List (List ℕ) → List ℕ
next_pairs rest = flat_map (λ next. codes "&" ++ next) rest

abbrev pub query_text : List (List ℕ) → List ℕ
query_text [] = []
query_text (pair ∷ rest) = codes "?" ++ pair ++ next_pairs rest

-- an address that has no fragment, without the pairs of fresh names in its query
abbrev pub unmarked_without : List (List ℕ) → List ℕ → List ℕ
unmarked_without fresh address =
    if list_any (λ c. c == 63) address then before_first (λ c. c == 63) address
    ++ query_text (kept_pairs fresh (after_first (λ c. c == 63) address)) else address

-- the same of any: a query ends where the first `#` stands (URL Standard, section 4.3), and what stands from there on
-- is kept
abbrev pub without_fresh : List (List ℕ) → List ℕ → List ℕ
without_fresh fresh address = unmarked_without fresh (before_first (λ c. c == 35) address)
    ++ drop (position_or_len (λ c. c == 35) address) address

abbrev pub addresses_named : List (List ℕ) → List (List ℕ) → List Attribute → List Attribute
addresses_named fresh names attributes = map (λ a. (a.0, without_fresh fresh a.1)) (those_named names attributes)

-- ---- what a form sends that no user sees

-- the value that a control sends that nobody touched: its start text, or its value where it starts on
abbrev pub untouched_value : Tree → Option (List ℕ)
untouched_value t = option_or (start_text_of t)
    (if start_checked_of t then Some (unwrap_or (value_of (codes "value") (attributes_of t)) (codes "on")) else None)

abbrev pub is_control_disabled : Tree → Bool
is_control_disabled t = is_some (value_of (codes "disabled") (attributes_of t))

-- it under its name, unless it is disabled
abbrev pub untouched_pair : Tree → Option Attribute
untouched_pair t = if is_control_disabled t then None else option_and_then (λ name. option_map (λ value. (name, value))
    (untouched_value t)) (value_of (codes "name") (attributes_of t))

abbrev mutual
  -- The nodes at and under a node that are not seen, in document order: hidden inputs, and what stands under what isn't
  -- seen, or under a text area. `covered`: the node itself stands under such a one.
  pub unseen_at : Bool → Tree → List Tree
  unseen_at covered (element name attributes children) =
      let hidden = covered || not (is_seen (element name attributes children)) in
      (if hidden then element name attributes children ∷ [] else [])
      ++ unseen_in (hidden || bytes_eq name (codes "textarea")) children
  unseen_at covered (words text) = []

  pub unseen_in : Bool → Trees → List Tree
  unseen_in covered no_trees = []
  unseen_in covered (tree t ts) = unseen_at covered t ++ unseen_in covered ts

-- the pairs of these controls, in order; none of an empty or a fresh name
abbrev pub untouched_pairs : List (List ℕ) → List Tree → List Attribute
untouched_pairs fresh controls =
    filter (λ pair. not (is_one_of ([] ∷ fresh) pair.0)) (filter_map untouched_pair controls)

-- ---- what an element sends

abbrev pub posts : List Attribute → Bool
posts attributes =
    option_map_or (λ method. str_eq_ignore_ascii_case method (codes "post")) (value_of (codes "method") attributes)
    false

-- a form: whether it posts, its action (none is an empty one), and the pairs of the unseen controls under it
abbrev pub sent_by_form : List (List ℕ) → List Attribute → Trees → List Attribute
sent_by_form fresh attributes children =
    (codes "method", if posts attributes then codes "post" else [])
    ∷ (codes "action", without_fresh fresh (unwrap_or (value_of (codes "action") attributes) []))
    ∷ untouched_pairs fresh (unseen_in false children)

-- a control: its name, where it sends the form to, and its value unless that is a start text
abbrev pub sent_by_control : List (List ℕ) → List ℕ → List Attribute → List Attribute
sent_by_control fresh name attributes =
    those_named (codes "name" ∷ codes "formmethod" ∷ []) attributes
    ++ addresses_named fresh (codes "formaction" ∷ []) attributes
    ++ (if is_text (element_control name attributes) then [] else those_named (codes "value" ∷ []) attributes)

-- a link its address, an option its value, others nothing
abbrev pub sent : List (List ℕ) → Tree → List Attribute
sent fresh (element name attributes children) =
    if bytes_eq name (codes "form") then sent_by_form fresh attributes children else
    (if is_one_of (codes "input" ∷ codes "button" ∷ codes "select" ∷ codes "textarea" ∷ []) name
    then sent_by_control fresh name attributes else
    (if is_one_of (codes "a" ∷ codes "area" ∷ []) name then addresses_named fresh (codes "href" ∷ []) attributes else
    (if bytes_eq name (codes "option") then those_named (codes "value" ∷ []) attributes else [])))
sent fresh (words text) = []

-- What a node sends with all that is seen below it: a tree of the shape of its look.
abbrev pub sends : List (List ℕ) → Tree → Tree
sends fresh t = outline (sent fresh) t
