-- What a node is to a form, by its name and its attributes.
use Rattle.std.proofs.Common.{◌≡◌, ℕ, zero, suc, ◌<◌, List, [], ◌∷◌, ◌++◌, true, false, ◌&&◌, Option, Some, None, option_and_then, refl}
use Rattle.std.proofs.Common.{◌∙◌, ap, arith}
use Rattle.std.specs.Prelude.{is_some, codes}
use Rattle.std.specs.List.{flat_map}
use Rattle.std.specs.Option.{option_map_or}
use Rattle.page_tree.specs.Tree.{Tree, element, words, Trees, no_trees, tree}
use Rattle.page_tree.specs.Look.{children_of, nth_child, count, child_count_at, node_at, name_of, attributes_of, value_of, words_of}
use Rattle.page_tree.specs.Control.{element_control, child_texts, control_of, is_text, start_text, start_text_of}
use Rattle.page_tree.specs.Control.{is_switch, start_checked_of}
use Rattle.page_tree.specs.declared.control.Control.TheVariants.{Other}
use Rattle.page_tree.specs.Number.{place_numbered}
use Rattle.page_tree.specs.Started.{words_in, texts_below}
use Rattle.page_tree.specs.inside.Coming.{texts_coming}
use Rattle.page_tree.specs.inside.Table.{trees_behind}
use Rattle.page_tree.specs.inside.Kept.{children_at, words_at}
use Rattle.page_tree.proofs.Numbers.{parent_there, node_at_child}

pub attribute_is : (name : List ℕ) (o : Option Tree)
    → option_and_then (λ m. value_of name (attributes_of m)) o ≡ value_of name (option_map_or attributes_of o [])
attribute_is name None = refl
attribute_is name (Some m) = refl

-- ---- the node there has a name, or none

module _ (name : List ℕ) where
  pub control_named : (o : Option Tree) → option_and_then name_of o ≡ Some name
      → option_map_or control_of o Other ≡ element_control name (option_map_or attributes_of o [])
  control_named None is = cc
  control_named (Some (element own attributes children)) is = let same : own ≡ name = cc in ap (λ n. element_control n attributes) same
  control_named (Some (words text)) is = cc

  pub checked_named : (o : Option Tree) → option_and_then name_of o ≡ Some name
      → option_map_or start_checked_of o false ≡ (is_switch (element_control name (option_map_or attributes_of o [])) && is_some
      (value_of (codes "checked") (option_map_or attributes_of o [])))
  checked_named None is = cc
  checked_named (Some (element own attributes children)) is =
      let same : own ≡ name = cc in ap (λ n. is_switch (element_control n attributes) && is_some (value_of (codes "checked") attributes)) same
  checked_named (Some (words text)) is = cc

  pub start_named : (o : Option Tree) → option_and_then name_of o ≡ Some name
      → is_text (element_control name (option_map_or attributes_of o [])) ≡ true
      → option_and_then start_text_of o ≡ Some (start_text name (option_map_or attributes_of o []) (option_map_or children_of o no_trees))
  start_named None is text = cc
  start_named (Some (element own attributes children)) is text =
      let same : own ≡ name = cc in
      rw (same, text) refl
  start_named (Some (words text)) is held = cc

  pub start_other : (o : Option Tree) → option_and_then name_of o ≡ Some name
      → is_text (element_control name (option_map_or attributes_of o [])) ≡ false
      → option_and_then start_text_of o ≡ None
  start_other None is text = cc
  start_other (Some (element own attributes children)) is text =
      let same : own ≡ name = cc in
      rw (same, text) refl
  start_other (Some (words text)) is held = cc

pub control_unnamed : (o : Option Tree) → option_and_then name_of o ≡ None → option_map_or control_of o Other ≡ Other
control_unnamed None is = refl
control_unnamed (Some (element own attributes children)) is = cc
control_unnamed (Some (words text)) is = refl

pub checked_unnamed : (o : Option Tree) → option_and_then name_of o ≡ None → option_map_or start_checked_of o false ≡ false
checked_unnamed None is = refl
checked_unnamed (Some (element own attributes children)) is = cc
checked_unnamed (Some (words text)) is = refl

pub start_unnamed : (o : Option Tree) → option_and_then name_of o ≡ None → option_and_then start_text_of o ≡ None
start_unnamed None is = refl
start_unnamed (Some (element own attributes children)) is = cc
start_unnamed (Some (words text)) is = refl

-- ---- the texts among the children of a node

one_behind : (i : ℕ) (ts : Trees) → i < count ts → (c : Tree) × (trees_behind i ts ≡ tree c (trees_behind (suc i) ts)) × (nth_child i ts ≡ Some c)
one_behind i no_trees less = absurd (omega (arith, less))
one_behind zero (tree t ts) less = (t, refl, refl)
one_behind (suc i) (tree t ts) less = one_behind i ts (omega (arith, less))

none_behind : (ts : Trees) → trees_behind (count ts) ts ≡ no_trees
none_behind no_trees = refl
none_behind (tree t ts) = none_behind ts

count_is : (o : Option Tree) → option_map_or (λ n. count (children_of n)) o 0 ≡ count (option_map_or children_of o no_trees)
count_is None = refl
count_is (Some m) = refl

-- the child's own text, if it is one, and those behind it
pub text_step : (p : List ℕ) (t : Tree) (i : ℕ) → i < child_count_at p t
    → child_texts (trees_behind i (children_at p t)) ≡ words_at (p ++ i ∷ []) t ++ child_texts (trees_behind (suc i) (children_at p t))
text_step p t i less =
    let (m, here, few) = parent_there (node_at p t) i less in
    let (c, behind, child) = one_behind i (children_of m) few in
    let children : children_at p t ≡ children_of m = ap (λ o. option_map_or children_of o no_trees) here in
    let own : words_at (p ++ i ∷ []) t ≡ words_of c = ap (λ o. option_map_or words_of o []) (node_at_child p t m i here ∙ child) in
    rw (children, own) (ap child_texts behind)

pub text_end : (p : List ℕ) (t : Tree) → child_texts (trees_behind (child_count_at p t) (children_at p t)) ≡ []
text_end p t = ap (λ k. child_texts (trees_behind k (children_at p t))) (count_is (node_at p t)) ∙ ap child_texts (none_behind (children_at p t))

-- ---- the texts among children, as a list

joined_words : (ts : Trees) → child_texts ts ≡ flat_map (λ w. w) (words_in ts)
joined_words no_trees = refl
joined_words (tree t ts) = ap (λ rest. words_of t ++ rest) (joined_words ts)

pub words_joined : (page : Tree) (number : ℕ) → child_texts (children_at (place_numbered number page) page) ≡ flat_map (λ w. w) (texts_below page number)
words_joined page number = go (node_at (place_numbered number page) page)
  where
    go : (o : Option Tree) → child_texts (option_map_or children_of o no_trees) ≡ flat_map (λ w. w) (option_map_or (λ t. words_in (children_of t)) o [])
    go None = refl
    go (Some t) = joined_words (children_of t)

pub words_all : (page : Tree) (number : ℕ) → texts_coming page number 0 ≡ texts_below page number
words_all page number = go (node_at (place_numbered number page) page)
  where
    go : (o : Option Tree) → words_in (trees_behind 0 (option_map_or children_of o no_trees)) ≡ option_map_or (λ t. words_in (children_of t)) o []
    go None = refl
    go (Some t) = refl

pub words_step : (p : List ℕ) (t : Tree) (i : ℕ) → i < child_count_at p t
    → words_in (trees_behind i (children_at p t)) ≡ words_at (p ++ i ∷ []) t ∷ words_in (trees_behind (suc i) (children_at p t))
words_step p t i less =
    let (m, here, few) = parent_there (node_at p t) i less in
    let (c, behind, child) = one_behind i (children_of m) few in
    let children : children_at p t ≡ children_of m = ap (λ o. option_map_or children_of o no_trees) here in
    let own : words_at (p ++ i ∷ []) t ≡ words_of c = ap (λ o. option_map_or words_of o []) (node_at_child p t m i here ∙ child) in
    rw (children, own) (ap words_in behind)

pub words_end : (p : List ℕ) (t : Tree) → words_in (trees_behind (child_count_at p t) (children_at p t)) ≡ []
words_end p t = ap (λ k. words_in (trees_behind k (children_at p t))) (count_is (node_at p t)) ∙ ap words_in (none_behind (children_at p t))
