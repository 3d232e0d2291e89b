-- Seen nodes by their ranks, and the rank of a counterpart.
use Rattle.std.proofs.Common.{◌≡◌, ℕ, zero, suc, ◌+◌, List, [], ◌∷◌, ◌++◌, length, Bool, true, false, if◌then◌else◌, Some, None, Option, option_and_then, slice_get, refl, sym, ◌∙◌, ap, arith, length-append}
use Rattle.std.specs.Option.{option_map_or}
use Rattle.std.specs.Prelude.{codes}
use Rattle.std.specs.Str.{bytes_eq}
use Rattle.page_tree.specs.Tree.{Attribute, Tree, element, words, Trees, no_trees, tree}
use Rattle.page_tree.specs.Limits.{nodes, nodes_of_all}
use Rattle.page_tree.specs.Look.{children_of, nth_child, node_at}
use Rattle.page_tree.specs.Number.{first_trees, count_of, place_numbered}
use Rattle.page_tree.proofs.Numbers.{place_number, place_number-append, numbered_of_number}
use Rattle.page_looks.specs.Outline.{is_seen, open_children, outline, outlines, seen_place, shown, look}
use Rattle.page_looks.specs.SameElement.{IsAnchor, IsSame}
use Rattle.page_looks.specs.inside.Ranks.{seen_from, seen_in, subtrees, subtrees_in}
use Rattle.page_looks.proofs.KeptOnce.{get_first, get_behind}
use Rattle.page_looks.proofs.Splitting.{on_the_way}
use Rattle.page_looks.proofs.Outlines.{goes_through, seen_there, place_seen, outline_children, open_child, seen_child}

-- ---- the subtree at a rank

mutual
  pub subtrees-length : (t : Tree) → length (subtrees t) ≡ nodes t
  subtrees-length (element name attributes children) = ap suc (subtrees_in-length children)
  subtrees-length (words text) = refl

  subtrees_in-length : (ts : Trees) → length (subtrees_in ts) ≡ nodes_of_all ts
  subtrees_in-length no_trees = refl
  subtrees_in-length (tree t ts) = length-append (subtrees t) (subtrees_in ts) ∙ omega (arith, subtrees-length t, subtrees_in-length ts)

subtree_in : (ts : Trees) (i k : ℕ) (c u : Tree) → nth_child i ts ≡ Some c → slice_get (subtrees c) k ≡ Some u
    → slice_get (subtrees_in ts) (nodes_of_all (first_trees i ts) + k) ≡ Some u
subtree_in no_trees i k c u is at = cc
subtree_in (tree t ts) zero k c u is at =
    let same : t ≡ c = cc in
    let none : 0 + k ≡ k = omega arith in
    rw none (get_first (subtrees t) (subtrees_in ts) k u (rw same at))
subtree_in (tree t ts) (suc i) k c u is at =
    let behind : nodes t + nodes_of_all (first_trees i ts) + k ≡ length (subtrees t) + (nodes_of_all (first_trees i ts) + k) =
    omega (arith, subtrees-length t) in
    rw behind (get_behind (subtrees t) (subtrees_in ts) (nodes_of_all (first_trees i ts) + k) ∙ subtree_in ts i k c u is at)

first_subtree : (t : Tree) → slice_get (subtrees t) 0 ≡ Some t
first_subtree (element name attributes children) = refl
first_subtree (words text) = refl

child_subtree : (t : Tree) (k : ℕ) (u : Tree) → slice_get (subtrees_in (children_of t)) k ≡ Some u → slice_get (subtrees t) (suc k) ≡ Some u
child_subtree (element name attributes children) k u is = is
child_subtree (words text) k u is = cc

some_subtree : (i : ℕ) (rest : List ℕ) (t u : Tree) → ((c : Tree) → node_at rest c ≡ Some u → slice_get (subtrees c) (place_number rest c) ≡ Some u)
    → (o : Option Tree) → nth_child i (children_of t) ≡ o → option_and_then (node_at rest) o ≡ Some u
    → slice_get (subtrees t) (suc (nodes_of_all (first_trees i (children_of t))) + option_map_or (place_number rest) o 0) ≡ Some u
some_subtree i rest t u below None child is = cc
some_subtree i rest t u below (Some c) child is =
    let next : suc (nodes_of_all (first_trees i (children_of t))) + place_number rest c ≡ suc (nodes_of_all (first_trees i (children_of t)) + place_number rest c) =
    omega arith in
    rw next (child_subtree t _ u (subtree_in (children_of t) i (place_number rest c) c u child (below c is)))

pub subtree_at : (s : List ℕ) (t u : Tree) → node_at s t ≡ Some u → slice_get (subtrees t) (place_number s t) ≡ Some u
subtree_at [] t u is =
    let same : t ≡ u = cc in
    first_subtree t ∙ ap Some same
subtree_at (i ∷ rest) t u is = some_subtree i rest t u (λ c. subtree_at rest c u) (nth_child i (children_of t)) refl is

-- ---- the seen node at a rank

open_length : (told : Tree → List Attribute) (covers : Bool) (n : ℕ) (children : Trees) → length (seen_in n children) ≡ nodes_of_all (outlines told children)
    → length (if covers then [] else seen_in n children) ≡ nodes_of_all (if covers then no_trees else outlines told children)
open_length told true n children is = refl
open_length told false n children is = is

shown_length : (told : Tree → List Attribute) (shows : Bool) (n m : ℕ) (t : Tree) (ts : Trees) → length (seen_from n t) ≡ nodes (outline told t)
    → length (seen_in m ts) ≡ nodes_of_all (outlines told ts) → length (if shows then seen_from n t ++ seen_in m ts else seen_in m ts)
    ≡ nodes_of_all (if shows then tree (outline told t) (outlines told ts) else outlines told ts)
shown_length told true n m t ts one rest = length-append (seen_from n t) (seen_in m ts) ∙ omega (arith, one, rest)
shown_length told false n m t ts one rest = rest

mutual
  pub seen_from-length : (told : Tree → List Attribute) (n : ℕ) (t : Tree) → length (seen_from n t) ≡ nodes (outline told t)
  seen_from-length told n (element name attributes children) =
      ap suc (open_length told (bytes_eq name (codes "textarea")) (suc n) children (seen_in-length told (suc n) children))
  seen_from-length told n (words text) = refl

  pub seen_in-length : (told : Tree → List Attribute) (n : ℕ) (ts : Trees) → length (seen_in n ts) ≡ nodes_of_all (outlines told ts)
  seen_in-length told n no_trees = refl
  seen_in-length told n (tree t ts) =
      shown_length told (is_seen t) n (n + nodes t) t ts (seen_from-length told n t) (seen_in-length told (n + nodes t) ts)

one_behind : (told : Tree → List Attribute) (shows : Bool) (n m k j r : ℕ) (t : Tree) (ts : Trees)
    → slice_get (seen_in m ts) (nodes_of_all (first_trees j (outlines told ts)) + k) ≡ Some r
    → slice_get (if shows then seen_from n t ++ seen_in m ts else seen_in m ts)
    (nodes_of_all (first_trees (if shows then suc j else j) (if shows then tree (outline told t) (outlines told ts) else outlines told ts)) + k) ≡ Some r
one_behind told true n m k j r t ts is =
    let behind : nodes (outline told t) + nodes_of_all (first_trees j (outlines told ts)) + k
    ≡ length (seen_from n t) + (nodes_of_all (first_trees j (outlines told ts)) + k) = omega (arith, seen_from-length told n t) in
    rw behind (get_behind (seen_from n t) (seen_in m ts) _ ∙ is)
one_behind told false n m k j r t ts is = is

rank_in : (told : Tree → List Attribute) (ts : Trees) (i n k r : ℕ) (c : Tree) → nth_child i ts ≡ Some c → is_seen c ≡ true
    → slice_get (seen_from (n + nodes_of_all (first_trees i ts)) c) k ≡ Some r
    → slice_get (seen_in n ts) (nodes_of_all (first_trees (count_of is_seen (first_trees i ts)) (outlines told ts)) + k) ≡ Some r
rank_in told no_trees i n k r c is seen at = cc
rank_in told (tree t ts) zero n k r c is seen at =
    let same : t ≡ c = cc in
    let shows : is_seen t ≡ true = rw same seen in
    let here : slice_get (seen_from n t) k ≡ Some r = rw (same) (ap (λ m. slice_get (seen_from m c) k) (omega arith) ∙ at) in
    let none : 0 + k ≡ k = omega arith in
    rw shows (rw none (get_first (seen_from n t) (seen_in (n + nodes t) ts) k r here))
rank_in told (tree t ts) (suc i) n k r c is seen at =
    let more : n + nodes t + nodes_of_all (first_trees i ts) ≡ n + (nodes t + nodes_of_all (first_trees i ts)) = omega arith in
    one_behind told (is_seen t) n (n + nodes t) k (count_of is_seen (first_trees i ts)) r t ts
    (rank_in told ts i (n + nodes t) k r c is seen (rw more at))

first_rank : (n : ℕ) (t : Tree) → slice_get (seen_from n t) 0 ≡ Some n
first_rank n (element name attributes children) = refl
first_rank n (words text) = refl

open_rank : (covers : Bool) (n k r : ℕ) (children : Trees) → slice_get (seen_in n (if covers then no_trees else children)) k ≡ Some r
    → slice_get (if covers then [] else seen_in n children) k ≡ Some r
open_rank true n k r children is = is
open_rank false n k r children is = is

child_rank : (n k r : ℕ) (t : Tree) → slice_get (seen_in (suc n) (open_children t)) k ≡ Some r → slice_get (seen_from n t) (suc k) ≡ Some r
child_rank n k r (element name attributes children) is = open_rank (bytes_eq name (codes "textarea")) (suc n) k r children is
child_rank n k r (words text) is = cc

none_covered : (covers : Bool) (i : ℕ) (children : Trees) (c : Tree) → nth_child i (if covers then no_trees else children) ≡ Some c
    → first_trees i (if covers then no_trees else children) ≡ first_trees i children
none_covered true i children c is = cc
none_covered false i children c is = refl

same_before : (t : Tree) (i : ℕ) (c : Tree) → nth_child i (open_children t) ≡ Some c → first_trees i (open_children t) ≡ first_trees i (children_of t)
same_before (element name attributes children) i c is = none_covered (bytes_eq name (codes "textarea")) i children c is
same_before (words text) i c is = cc

-- a seen node has the rank that its place in the outline has there as a number
pub rank_at : (told : Tree → List Attribute) (p : List ℕ) (t : Tree) (s : List ℕ) (n : ℕ) → seen_place p t ≡ Some s
    → slice_get (seen_from n t) (place_number s (outline told t)) ≡ Some (n + place_number p t)
rank_at told [] t s n is =
    let root : [] ≡ s = cc in
    let none : n ≡ n + 0 = omega arith in
    ap (λ k. slice_get (seen_from n t) (place_number k (outline told t))) (sym root) ∙ first_rank n t ∙ ap Some none
rank_at told (i ∷ rest) t s n is =
    let g = goes_through i rest t s is in
    let before = first_trees i (open_children t) in
    let count = count_of is_seen before in
    let child : nth_child i (children_of t) ≡ Some g.child = open_child t i g.child g.is in
    let shape : nth_child count (children_of (outline told t)) ≡ Some (outline told g.child) =
    ap (nth_child count) (outline_children told t) ∙ seen_child told (open_children t) i g.child g.is g.seen in
    let below = rank_at told rest g.child g.way (suc n + nodes_of_all before) g.below in
    let inside = rank_in told (open_children t) i (suc n) (place_number g.way (outline told g.child)) _ g.child g.is g.seen below in
    let far : place_number (count ∷ g.way) (outline told t)
    ≡ suc (nodes_of_all (first_trees count (outlines told (open_children t))) + place_number g.way (outline told g.child)) =
    omega (arith, ap (λ o. option_map_or (place_number g.way) o 0) shape, ap (λ ts. nodes_of_all (first_trees count ts)) (outline_children told t)) in
    let near : suc n + nodes_of_all before + place_number rest g.child ≡ n + place_number (i ∷ rest) t =
    omega (arith, ap (λ o. option_map_or (place_number rest) o 0) child, ap nodes_of_all (same_before t i g.child g.is)) in
    ap (λ k. slice_get (seen_from n t) (place_number k (outline told t))) g.place ∙ ap (slice_get (seen_from n t)) far
    ∙ child_rank n _ _ t inside ∙ ap Some near

-- ---- the rank of a counterpart

pub record IsCounterpart (old new : Tree) (p : List ℕ) (rank : ℕ) : Type 0 where
  pub place : List ℕ
  pub same : IsSame old new p place
  pub at : slice_get (seen_from 0 new) rank ≡ Some (place_number place new)
  pub back : place_numbered (place_number place new) new ≡ place

-- it is as far behind the one of the anchor as the element is behind the other
pub counterpart : (old new : Tree) (p s there v : List ℕ) (rank : ℕ) → IsAnchor old new s there → seen_place p old ≡ Some (s ++ v)
    → rank + place_number s (look old) ≡ place_number there (look new) + place_number (s ++ v) (look old) → IsCounterpart old new p rank
counterpart old new p s there v rank a from far =
    let m = seen_there shown p old (s ++ v) from in
    let shape : node_at (there ++ v) (look new) ≡ Some (look m.node) =
    on_the_way there v (look new) a.looks a.after.there ∙ sym (on_the_way s v (look old) a.looks a.before.there) ∙ m.shape in
    let o = place_seen shown (there ++ v) new (look m.node) shape in
    let number : place_number (there ++ v) (look new) ≡ rank = omega (
      arith,
      far,
      place_number-append s v (look old) a.looks a.before.there,
      place_number-append there v (look new) a.looks a.after.there,
    ) in
    let none : 0 + place_number o.place new ≡ place_number o.place new = omega arith in
    record {
      place = o.place;
      same = record { at = s; there = there; anchor = a; way = v; from = from; to = o.seen };
      at = ap (slice_get (seen_from 0 new)) (sym number) ∙ rank_at shown o.place new (there ++ v) 0 o.seen ∙ ap Some none;
      back = numbered_of_number o.place new o.node o.there;
    }
