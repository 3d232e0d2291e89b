-- The same element as a function: what `SameElement` says as a relation, found from the nearest anchor.
use Rattle.std.specs.Prelude.{ℕ, List, [], ◌∷◌, ◌++◌, filter, Bool, true, false, ◌&&◌, if◌then◌else◌, Option, Some, None, option_map, option_and_then, refl}
use Rattle.std.specs.Coded.{Coded, coded×, coded_list, coded_ℕ, code_by}
use Rattle.std.specs.List.{find, list_all}
use Rattle.std.specs.Option.{option_or, option_map_or}
use Rattle.std.specs.Str.{bytes_eq}
use Rattle.page_tree.specs.Tree.{Attribute, Tree, element, words, Trees, no_trees, tree}
use Rattle.page_tree.specs.Look.{node_at}
use Rattle.page_tree.specs.Under.{places_of}
use Rattle.page_tree.specs.inside.TreeCode.{tree_code}
use Rattle.page_looks.specs.Outline.{look, seen_place}
use Rattle.page_looks.specs.Sending.{sent, sends}

-- ---- equal trees

abbrev pub are_attributes : List Attribute → List Attribute → Bool
are_attributes [] [] = true
are_attributes (a ∷ rest) (b ∷ others) = bytes_eq a.0 b.0 && bytes_eq a.1 b.1 && are_attributes rest others
are_attributes rest others = false

abbrev mutual
  pub is_tree : Tree → Tree → Bool
  is_tree (element name attributes children) (element other others further) =
      bytes_eq name other && are_attributes attributes others && are_trees children further
  is_tree (words text) (words other) = bytes_eq text other
  is_tree t u = false

  pub are_trees : Trees → Trees → Bool
  are_trees no_trees no_trees = true
  are_trees (tree t ts) (tree u us) = is_tree t u && are_trees ts us
  are_trees ts us = false

abbrev pub is_node : Option Tree → Tree → Bool
is_node found t = option_map_or (is_tree t) found false

-- ---- anchors

-- the places at which a node like this one stands
abbrev pub stands_at : Tree → Tree → List (List ℕ)
stands_at node t = filter (λ p. is_node (node_at p t) node) (places_of [] t)

-- the place that they all are
abbrev pub only_one : List (List ℕ) → Option (List ℕ)
only_one [] = None
only_one (p ∷ rest) = if list_all (bytes_eq p) rest then Some p else None

-- where the other of an anchor stands, of which the one stands there
abbrev pub other_of : Tree → Tree → List ℕ → Option (List ℕ)
other_of old new at = option_and_then (λ looks. option_and_then (λ own. only_one (stands_at looks (look new)))
    (only_one (stands_at looks (look old)))) (node_at at (look old))

-- an anchor, and the way from it to what stands under it
pub record Around : Type 0 where
  pub at : List ℕ
  pub there : List ℕ
  pub way : List ℕ

abbrev pub around_from : Tree → Tree → List ℕ → List ℕ → Option Around
around_from old new at way =
    option_map (λ there. record { at = at; there = there; way = way }) (other_of old new at)

-- the lowest on the way down from a place of the old outline
abbrev pub lowest_from : Tree → Tree → List ℕ → List ℕ → Option Around
lowest_from old new at [] = around_from old new at []
lowest_from old new at (i ∷ way) =
    option_or (lowest_from old new (at ++ i ∷ []) way) (around_from old new at (i ∷ way))

-- the nearest around the node at a place of the old page
abbrev pub nearest_around : Tree → Tree → List ℕ → Option Around
nearest_around old new p = option_and_then (lowest_from old new []) (seen_place p old)

-- ---- the same element

-- the place of the page of which this is the place in the outline
abbrev pub place_seen_at : List ℕ → Tree → Option (List ℕ)
place_seen_at s t = find (λ q. option_map_or (bytes_eq s) (seen_place q t) false) (places_of [] t)

abbrev pub same_place : Tree → Tree → List ℕ → Option (List ℕ)
same_place old new p = option_and_then (λ a. place_seen_at (a.there ++ a.way) new) (nearest_around old new p)

-- whether the two of the nearest anchor send the same, with all below them
abbrev pub still_sends : List (List ℕ) → Tree → Tree → List ℕ → Bool
still_sends fresh old new p = option_map_or
    (λ a. option_map_or (is_node (node_at a.there (sends fresh new))) (node_at a.at (sends fresh old)) false)
    (nearest_around old new p) false

-- ---- without an anchor

-- the places on the new page at which something stands that looks so, of the outline
abbrev pub alike_at : Tree → Tree → List ℕ → List (List ℕ)
alike_at old new p = option_map_or (λ looks. stands_at looks (look new))
    (option_and_then (λ s. node_at s (look old)) (seen_place p old)) []

abbrev pub all_send : List (List ℕ) → Tree → Tree → List (List ℕ) → Bool
all_send fresh t sending places = list_all (λ s. is_node (node_at s (sends fresh t)) sending) places

abbrev pub first_one : List (List ℕ) → Option (List ℕ)
first_one [] = None
first_one (p ∷ rest) = Some p

-- the first that looks so, if all that look so on both pages send the same
abbrev pub as_good_place : List (List ℕ) → Tree → Tree → List ℕ → Option (List ℕ)
as_good_place fresh old new p =
    let sending = option_and_then (λ s. node_at s (sends fresh old)) (seen_place p old) in
    if option_map_or (λ u. all_send fresh old u (alike_at old old p) && all_send fresh new u (alike_at old new p))
    sending false then option_and_then (λ s. place_seen_at s new) (first_one (alike_at old new p)) else None

-- ---- what two nodes send themselves

abbrev pub sent_at : List (List ℕ) → Tree → List ℕ → List Attribute
sent_at fresh t place = option_map_or (sent fresh) (node_at place t) []

abbrev pub is_sent_alike : List (List ℕ) → Tree → Tree → List ℕ → List ℕ → Bool
is_sent_alike fresh old new p q = are_attributes (sent_at fresh old p) (sent_at fresh new q)

-- ---- two pages

-- a recorded page, a repaired one, and the names whose values differ at each load
pub record PagePair : Type 0 where
  pub old : Tree
  pub new : Tree
  pub fresh : List (List ℕ)

abbrev pub coded_pair : Coded PagePair
coded_pair = code_by (Tree × (Tree × List (List ℕ)))
    (coded× tree_code (coded× tree_code (coded_list (coded_list coded_ℕ))))
    (λ p. (p.old, (p.new, p.fresh))) (λ t. record { old = t.0; new = t.1.0; fresh = t.1.1 }) (λ _. refl)
