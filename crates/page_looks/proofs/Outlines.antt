-- Which nodes an outline has, and where.
use Rattle.std.proofs.Common.{◌≡◌, ℕ, zero, suc, List, [], ◌∷◌, Bool, true, false, if◌then◌else◌, Some, None, Option, option_map, option_and_then, refl, sym, ◌∙◌, ap, arith}
use Rattle.std.specs.Str.{bytes_eq}
use Rattle.std.specs.Prelude.{codes}
use Rattle.page_tree.specs.Tree.{Attribute, Tree, element, words, Trees, no_trees, tree}
use Rattle.page_tree.specs.Look.{children_of, nth_child, node_at}
use Rattle.page_tree.specs.Number.{first_trees, count_of}
use Rattle.page_looks.specs.Outline.{is_seen, open_children, outline, outlines, seen_place}

-- ---- children

closed : (told : Tree → List Attribute) (covers : Bool) (children : Trees)
    → (if covers then no_trees else outlines told children) ≡ outlines told (if covers then no_trees else children)
closed told true children = refl
closed told false children = refl

-- those of an outline are the outlines of the seen ones
pub outline_children : (told : Tree → List Attribute) (t : Tree) → children_of (outline told t) ≡ outlines told (open_children t)
outline_children told (element name attributes children) = closed told (bytes_eq name (codes "textarea")) children
outline_children told (words text) = refl

open_or_none : (covers : Bool) (children : Trees) (i : ℕ) (c : Tree) → nth_child i (if covers then no_trees else children) ≡ Some c
    → nth_child i children ≡ Some c
open_or_none true children i c is = cc
open_or_none false children i c is = is

-- an open child is a child
pub open_child : (t : Tree) (i : ℕ) (c : Tree) → nth_child i (open_children t) ≡ Some c → nth_child i (children_of t) ≡ Some c
open_child (element name attributes children) i c is = open_or_none (bytes_eq name (codes "textarea")) children i c is
open_child (words text) i c is = cc

-- a seen child stands among the outlines behind those of the seen ones before it
pub seen_child : (told : Tree → List Attribute) (ts : Trees) (i : ℕ) (c : Tree) → nth_child i ts ≡ Some c → is_seen c ≡ true
    → nth_child (count_of is_seen (first_trees i ts)) (outlines told ts) ≡ Some (outline told c)
seen_child told no_trees i c is seen = cc
seen_child told (tree t ts) zero c is seen =
    let same : t ≡ c = cc in
    rw same (rw seen refl)
seen_child told (tree t ts) (suc i) c is seen = seen_behind told (is_seen t) t ts i c (seen_child told ts i c is seen)
  where
    seen_behind : (told : Tree → List Attribute) (shows : Bool) (t : Tree) (ts : Trees) (i : ℕ) (c : Tree)
        → nth_child (count_of is_seen (first_trees i ts)) (outlines told ts) ≡ Some (outline told c)
        → nth_child (if shows then suc (count_of is_seen (first_trees i ts)) else count_of is_seen (first_trees i ts))
        (if shows then tree (outline told t) (outlines told ts) else outlines told ts) ≡ Some (outline told c)
    seen_behind told true t ts i c is = is
    seen_behind told false t ts i c is = is

-- the child that an outline's child is of
pub record IsSeenChild (told : Tree → List Attribute) (ts : Trees) (k : ℕ) (u : Tree) : Type 0 where
  pub i : ℕ
  pub child : Tree
  pub is : nth_child i ts ≡ Some child
  pub seen : is_seen child ≡ true
  pub before : count_of is_seen (first_trees i ts) ≡ k
  pub shape : u ≡ outline told child

later_child : (told : Tree → List Attribute) (t : Tree) (ts : Trees) (u : Tree) (b : Bool) → is_seen t ≡ b → (k : ℕ) (n : ℕ) → (if b then suc k else k) ≡ n
    → IsSeenChild told ts k u → IsSeenChild told (tree t ts) n u
later_child told t ts u b own k n same s = record {
  i = suc s.i;
  child = s.child;
  is = s.is;
  seen = s.seen;
  before = rw (own, s.before) same;
  shape = s.shape;
}

first_or_later : (told : Tree → List Attribute) (t : Tree) (ts : Trees) (u : Tree) → ((k : ℕ) → nth_child k (outlines told ts) ≡ Some u → IsSeenChild told ts k u)
    → (b : Bool) → is_seen t ≡ b → (k : ℕ) → nth_child k (if b then tree (outline told t) (outlines told ts) else outlines told ts) ≡ Some u
    → IsSeenChild told (tree t ts) k u
first_or_later told t ts u rest true own zero is = record { i = zero; child = t; is = refl; seen = own; before = refl; shape = cc }
first_or_later told t ts u rest true own (suc k) is = later_child told t ts u true own k (suc k) refl (rest k is)
first_or_later told t ts u rest false own k is = later_child told t ts u false own k k refl (rest k is)

pub child_seen : (told : Tree → List Attribute) (ts : Trees) (k : ℕ) (u : Tree) → nth_child k (outlines told ts) ≡ Some u
    → IsSeenChild told ts k u
child_seen told no_trees k u is = cc
child_seen told (tree t ts) k u is = first_or_later told t ts u (λ j. child_seen told ts j u) (is_seen t) refl k is

-- two seen children behind as many seen ones are one
pub one_child : (ts : Trees) (i j : ℕ) (c d : Tree) → nth_child i ts ≡ Some c → nth_child j ts ≡ Some d → is_seen c ≡ true → is_seen d ≡ true
    → count_of is_seen (first_trees i ts) ≡ count_of is_seen (first_trees j ts) → i ≡ j
one_child no_trees i j c d is at seen shows same = cc
one_child (tree t ts) zero zero c d is at seen shows same = refl
one_child (tree t ts) zero (suc j) c d is at seen shows same =
    let own : t ≡ c = cc in
    let here : is_seen t ≡ true = rw own seen in
    absurd (omega (arith, rw here at same))
one_child (tree t ts) (suc i) zero c d is at seen shows same =
    let own : t ≡ d = cc in
    let here : is_seen t ≡ true = rw own shows in
    absurd (omega (arith, rw here at same))
one_child (tree t ts) (suc i) (suc j) c d is at seen shows same =
    ap suc (one_child ts i j c d is at seen shows (less (is_seen t) _ _ same))
  where
    less : (b : Bool) (n m : ℕ) → (if b then suc n else n) ≡ (if b then suc m else m) → n ≡ m
    less true n m same = omega arith
    less false n m same = same

-- ---- places

-- a seen place below the root: the child that it goes through
pub record GoesThrough (i : ℕ) (rest : List ℕ) (t : Tree) (s : List ℕ) : Type 0 where
  pub child : Tree
  pub way : List ℕ
  pub is : nth_child i (open_children t) ≡ Some child
  pub seen : is_seen child ≡ true
  pub below : seen_place rest child ≡ Some way
  pub place : s ≡ count_of is_seen (first_trees i (open_children t)) ∷ way

seen_way : (i : ℕ) (rest : List ℕ) (t child : Tree) (s : List ℕ) (o : Option (List ℕ)) → nth_child i (open_children t) ≡ Some child → is_seen child ≡ true
    → seen_place rest child ≡ o → option_map (λ way. count_of is_seen (first_trees i (open_children t)) ∷ way) o ≡ Some s → GoesThrough i rest t s
seen_way i rest t child s None is seen below place = cc
seen_way i rest t child s (Some way) is seen below place =
    record { child = child; way = way; is = is; seen = seen; below = below; place = cc }

seen_or_not : (i : ℕ) (rest : List ℕ) (t child : Tree) (s : List ℕ) (b : Bool) → nth_child i (open_children t) ≡ Some child → is_seen child ≡ b
    → (if b then option_map (λ way. count_of is_seen (first_trees i (open_children t)) ∷ way) (seen_place rest child) else None) ≡ Some s
    → GoesThrough i rest t s
seen_or_not i rest t child s true is seen place = seen_way i rest t child s (seen_place rest child) is seen refl place
seen_or_not i rest t child s false is seen place = cc

some_child : (i : ℕ) (rest : List ℕ) (t : Tree) (s : List ℕ) (o : Option Tree) → nth_child i (open_children t) ≡ o
    → option_and_then (λ child. if is_seen child
    then option_map (λ way. count_of is_seen (first_trees i (open_children t)) ∷ way) (seen_place rest child) else None) o ≡ Some s
    → GoesThrough i rest t s
some_child i rest t s None is place = cc
some_child i rest t s (Some child) is place = seen_or_not i rest t child s (is_seen child) is refl place

pub goes_through : (i : ℕ) (rest : List ℕ) (t : Tree) (s : List ℕ) → seen_place (i ∷ rest) t ≡ Some s → GoesThrough i rest t s
goes_through i rest t s place = some_child i rest t s (nth_child i (open_children t)) refl place

-- and back
pub through_there : (i : ℕ) (rest : List ℕ) (t child : Tree) (way : List ℕ) → nth_child i (open_children t) ≡ Some child → is_seen child ≡ true
    → seen_place rest child ≡ Some way → seen_place (i ∷ rest) t ≡ Some (count_of is_seen (first_trees i (open_children t)) ∷ way)
through_there i rest t child way is seen below = rw (is, seen, below) refl

-- a node of the page that stands at a place of its outline
pub record IsSeenAt (told : Tree → List Attribute) (t : Tree) (p s : List ℕ) : Type 0 where
  pub node : Tree
  pub there : node_at p t ≡ Some node
  pub shape : node_at s (outline told t) ≡ Some (outline told node)

seen_below : (told : Tree → List Attribute) (i : ℕ) (rest : List ℕ) (t : Tree) (s : List ℕ) (g : GoesThrough i rest t s)
    → IsSeenAt told g.child rest g.way → IsSeenAt told t (i ∷ rest) s
seen_below told i rest t s g b =
    let child : nth_child i (children_of t) ≡ Some g.child = open_child t i g.child g.is in
    let shape : nth_child (count_of is_seen (first_trees i (open_children t))) (children_of (outline told t)) ≡ Some (outline told g.child) =
    ap (nth_child (count_of is_seen (first_trees i (open_children t)))) (outline_children told t)
    ∙ seen_child told (open_children t) i g.child g.is g.seen in
    record {
      node = b.node;
      there = ap (option_and_then (node_at rest)) child ∙ b.there;
      shape = ap (λ q. node_at q (outline told t)) g.place ∙ ap (option_and_then (node_at g.way)) shape ∙ b.shape;
    }

-- where a seen node stands in the outline stands its outline
pub seen_there : (told : Tree → List Attribute) (p : List ℕ) (t : Tree) (s : List ℕ) → seen_place p t ≡ Some s → IsSeenAt told t p s
seen_there told [] t s is =
    let root : [] ≡ s = cc in
    record { node = t; there = refl; shape = rw (← root) refl }
seen_there told (i ∷ rest) t s is =
    let g = goes_through i rest t s is in
    seen_below told i rest t s g (seen_there told rest g.child g.way g.below)

-- no two seen nodes stand at one place of the outline
pub one_place : (p q : List ℕ) (t : Tree) (s : List ℕ) → seen_place p t ≡ Some s → seen_place q t ≡ Some s → p ≡ q
one_place [] [] t s is at = refl
one_place [] (j ∷ q) t s is at =
    let g = goes_through j q t s at in
    let root : Some [] ≡ Some (count_of is_seen (first_trees j (open_children t)) ∷ g.way) = is ∙ ap Some g.place in
    cc
one_place (i ∷ p) [] t s is at =
    let g = goes_through i p t s is in
    let root : Some [] ≡ Some (count_of is_seen (first_trees i (open_children t)) ∷ g.way) = at ∙ ap Some g.place in
    cc
one_place (i ∷ p) (j ∷ q) t s is at =
    let g = goes_through i p t s is in
    let h = goes_through j q t s at in
    let both : count_of is_seen (first_trees i (open_children t)) ∷ g.way ≡ count_of is_seen (first_trees j (open_children t)) ∷ h.way =
    sym g.place ∙ h.place in
    let many : count_of is_seen (first_trees i (open_children t)) ≡ count_of is_seen (first_trees j (open_children t)) = cc in
    let ways : g.way ≡ h.way = cc in
    let first : i ≡ j = one_child (open_children t) i j g.child h.child g.is h.is g.seen h.seen many in
    let here : nth_child i (open_children t) ≡ Some h.child = rw first h.is in
    let child : h.child ≡ g.child = cc in
    let later : p ≡ q = one_place p q g.child g.way g.below (rw child at (rw (← ways) at h.below)) in
    cc

-- the place of the page that a place of the outline is of
pub record IsPlaceOf (told : Tree → List Attribute) (t : Tree) (s : List ℕ) (u : Tree) : Type 0 where
  pub place : List ℕ
  pub node : Tree
  pub seen : seen_place place t ≡ Some s
  pub there : node_at place t ≡ Some node
  pub shape : u ≡ outline told node

down : (told : Tree → List Attribute) (k : ℕ) (s : List ℕ) (t u : Tree) → (c : IsSeenChild told (open_children t) k u) → (v : Tree)
    → IsPlaceOf told c.child s v → IsPlaceOf told t (k ∷ s) v
down told k s t u c v b = record {
  place = c.i ∷ b.place;
  node = b.node;
  seen = through_there c.i b.place t c.child s c.is c.seen b.seen ∙ ap (λ n. Some (n ∷ s)) c.before;
  there = rw (open_child t c.i c.child c.is) b.there;
  shape = b.shape;
}

below_child : (told : Tree → List Attribute) (k : ℕ) (s : List ℕ) (t u : Tree)
    → ((c : Tree) (v : Tree) → node_at s (outline told c) ≡ Some v → IsPlaceOf told c s v)
    → (o : Option Tree) → nth_child k (outlines told (open_children t)) ≡ o → option_and_then (node_at s) o ≡ Some u → IsPlaceOf told t (k ∷ s) u
below_child told k s t u deeper None child is = cc
below_child told k s t u deeper (Some v) child is =
    let c = child_seen told (open_children t) k v child in
    down told k s t v c u (deeper c.child u (rw c.shape at is))

-- each node of an outline is that of a seen node
pub place_seen : (told : Tree → List Attribute) (s : List ℕ) (t u : Tree) → node_at s (outline told t) ≡ Some u → IsPlaceOf told t s u
place_seen told [] t u is = record { place = []; node = t; seen = refl; there = refl; shape = cc }
place_seen told (k ∷ s) t u is = below_child told k s t u (λ c v. place_seen told s c v) (nth_child k (outlines told (open_children t))) refl
    (rw outline_children at is)
