-- What a user sees of a page, and how an element looks: this project's own rule. What is sent (addresses, hidden
-- values) is what attacks and repairs change, so nothing of it is in a look, nor `id`, `class` and `name`.
use Rattle.std.specs.Prelude.{ℕ, List, [], ◌∷◌, ◌++◌, Bool, not, ◌&&◌, if◌then◌else◌, Option, Some, None, unwrap_or, option_map, option_and_then, codes}
use Rattle.std.specs.List.{list_any, list_all, filter_map}
use Rattle.std.specs.Char.{is_ascii_whitespace}
use Rattle.std.specs.Str.{bytes_eq, str_to_ascii_lowercase}
use Rattle.page_tree.specs.Tree.{Attribute, Tree, element, words, Trees, no_trees, tree}
use Rattle.page_tree.specs.Look.{nth_child, value_of}
use Rattle.page_tree.specs.Number.{first_trees, count_of}

abbrev pub is_one_of : List (List ℕ) → List ℕ → Bool
is_one_of names name = list_any (bytes_eq name) names

-- the attributes of these names, in the order of the names
abbrev pub those_named : List (List ℕ) → List Attribute → List Attribute
those_named names attributes = filter_map (λ name. option_map (λ value. (name, value)) (value_of name attributes)) names

-- an element's `type` in lower case, empty where it has none
abbrev pub type_of : List Attribute → List ℕ
type_of attributes = str_to_ascii_lowercase (unwrap_or (value_of (codes "type") attributes) [])

-- ---- what is seen

abbrev pub unseen_names : List (List ℕ)
unseen_names = codes "head" ∷ codes "script" ∷ codes "style" ∷ codes "noscript" ∷ codes "template" ∷ codes "link"
    ∷ codes "meta" ∷ codes "base" ∷ []

-- an element but these and a hidden input, and a text that isn't blank
abbrev pub is_seen : Tree → Bool
is_seen (element name attributes children) =
    not (is_one_of unseen_names name)
    && not (bytes_eq name (codes "input") && bytes_eq (type_of attributes) (codes "hidden"))
is_seen (words text) = not (list_all is_ascii_whitespace text)

-- nothing is seen under a text area: its texts are its start text
abbrev pub open_children : Tree → Trees
open_children (element name attributes children) = if bytes_eq name (codes "textarea") then no_trees else children
open_children (words text) = no_trees

abbrev mutual
  -- The seen part of a page: a node, and the seen nodes under it. An element has what a function tells of it in the
  -- place of its attributes.
  pub outline : (Tree → List Attribute) → Tree → Tree
  outline told (element name attributes children) = element name (told (element name attributes children))
      (if bytes_eq name (codes "textarea") then no_trees else outlines told children)
  outline told (words text) = words text

  pub outlines : (Tree → List Attribute) → Trees → Trees
  outlines told no_trees = no_trees
  outlines told (tree t ts) = if is_seen t then tree (outline told t) (outlines told ts) else outlines told ts

-- Where the node at a place of the page stands in its outline, whatever is told: at each step its seen siblings alone
-- are counted. None where it isn't seen, or stands under what isn't, or no node is there. (The root counts as seen.)
abbrev pub seen_place : List ℕ → Tree → Option (List ℕ)
seen_place [] t = Some []
seen_place (i ∷ rest) t = option_and_then (λ child. if is_seen child
    then option_map (λ way. count_of is_seen (first_trees i (open_children t)) ∷ way) (seen_place rest child) else None)
    (nth_child i (open_children t))

-- ---- how it looks

-- inputs whose `value` is what is written on them
abbrev pub is_push_type : List ℕ → Bool
is_push_type kind = is_one_of (codes "submit" ∷ codes "reset" ∷ codes "button" ∷ []) kind

-- the attributes that a user sees something of
abbrev pub shown : Tree → List Attribute
shown (element name attributes children) =
    (if is_one_of (codes "input" ∷ codes "button" ∷ []) name then (codes "type", type_of attributes) ∷ [] else [])
    ++ those_named (codes "alt" ∷ codes "aria-label" ∷ codes "placeholder" ∷ codes "src" ∷ codes "title" ∷ [])
    attributes
    ++ (if bytes_eq name (codes "input") && is_push_type (type_of attributes)
    then those_named (codes "value" ∷ []) attributes else [])
shown (words text) = []

-- A look is a tree: the seen part of the node, with what is shown of each element. Two nodes look alike where their
-- looks are equal.
abbrev pub look : Tree → Tree
look t = outline shown t
