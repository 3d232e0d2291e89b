-- Numbers and places, either from the other.
use Rattle.std.proofs.Common.{◌≡◌, ℕ, zero, suc, ◌+◌, ◌-◌, ◌<◌, ◌≤◌, List, [], ◌∷◌, ◌++◌, length, map, get_or, Option, Some, None}
use Rattle.std.proofs.Common.{option_and_then, IsSome, All, refl, sym, ◌∙◌, ap, arith, length-append, zero-add, add-zero}
use Rattle.std.specs.Option.{option_map_or}
use Rattle.std.specs.List.{range_with_len}
use Rattle.std.proofs.lemmas.List.{map-append, get_or-map, get_or_past}
use Rattle.std.proofs.lemmas.List.FromFn.{get_or-range_with_len}
use Rattle.std.proofs.lemmas.List.Elements.{All-get_or, All-tail, All-head, All-weaker, at_from_Contains}
use Rattle.std.proofs.lemmas.Simd.{map-map}
use Rattle.page_tree.specs.Tree.{Tree, element, words, Trees, no_trees, tree}
use Rattle.page_tree.specs.Limits.{nodes, nodes_of_all}
use Rattle.page_tree.specs.Look.{children_of, nth_child, node_at, count, child_count_at}
use Rattle.page_tree.specs.Under.{places_of, places_from, places_under}
use Rattle.page_tree.specs.Number.{place_numbered, first_trees}
use Rattle.page_tree.specs.inside.Table.{trees_behind}
use Rattle.page_tree.proofs.Counting.{nodes-positive}
use Rattle.page_tree.proofs.Below.{node_at-append, IsOf, all_of, has_of}

-- the number of the node there, where one is
abbrev pub place_number : List ℕ → Tree → ℕ
place_number [] t = 0
place_number (i ∷ rest) t =
    suc (nodes_of_all (first_trees i (children_of t))) + option_map_or (place_number rest) (nth_child i (children_of t)) 0

mutual
  -- a list of places has one for each node
  pub places-length : (at : List ℕ) (t : Tree) → length (places_of at t) ≡ nodes t
  places-length at (element name attributes children) = ap suc (places_from-length at 0 children)
  places-length at (words text) = refl

  pub places_from-length : (at : List ℕ) (i : ℕ) (ts : Trees) → length (places_from at i ts) ≡ nodes_of_all ts
  places_from-length at i no_trees = refl
  places_from-length at i (tree t ts) =
      length-append (places_of (at ++ i ∷ []) t) (places_from at (i + 1) ts)
      ∙ omega (arith, places-length (at ++ i ∷ []) t, places_from-length at (i + 1) ts)

-- ---- children

-- below their count there is a child
pub nth_there : (i : ℕ) (ts : Trees) → i < count ts → (c : Tree) × (nth_child i ts ≡ Some c)
nth_there i no_trees less = absurd (omega (arith, less))
nth_there zero (tree t ts) less = (t, refl)
nth_there (suc i) (tree t ts) less = nth_there i ts (omega (arith, less))

-- from their count on there is none
pub nth_past : (i : ℕ) (ts : Trees) → count ts ≤ i → nth_child i ts ≡ None
nth_past i no_trees past = refl
nth_past zero (tree t ts) past = absurd (omega (arith, past))
nth_past (suc i) (tree t ts) past = nth_past i ts (omega (arith, past))

-- the trees behind so many begin with the next child
pub nth_behind : (i : ℕ) (ts : Trees) (t : Tree) (us : Trees) → trees_behind i ts ≡ tree t us
    → (nth_child i ts ≡ Some t) × (trees_behind (suc i) ts ≡ us)
nth_behind zero no_trees t us is = cc
nth_behind zero (tree u vs) t us is = (cc, cc)
nth_behind (suc i) no_trees t us is = cc
nth_behind (suc i) (tree u vs) t us is = nth_behind i vs t us is

nodes_next : (i : ℕ) (ts : Trees) (c : Tree) → nth_child i ts ≡ Some c
    → nodes_of_all (first_trees (suc i) ts) ≡ nodes_of_all (first_trees i ts) + nodes c
nodes_next i no_trees c is = cc
nodes_next zero (tree t ts) c is =
    let same : t ≡ c = cc in
    omega (arith, ap nodes same)
nodes_next (suc i) (tree t ts) c is = omega (arith, nodes_next i ts c is)

nodes_within : (i : ℕ) (ts : Trees) (c : Tree) → nth_child i ts ≡ Some c → nodes_of_all (first_trees i ts) + nodes c ≤ nodes_of_all ts
nodes_within i no_trees c is = cc
nodes_within zero (tree t ts) c is =
    let same : t ≡ c = cc in
    omega (arith, ap nodes same)
nodes_within (suc i) (tree t ts) c is = omega (arith, nodes_within i ts c is)

-- no step leads to the node itself
pub node_at_end : (o : Option Tree) → option_and_then (node_at []) o ≡ o
node_at_end None = refl
node_at_end (Some t) = refl

-- the node at a child's place
pub node_at_child : (p : List ℕ) (t m : Tree) (i : ℕ) → node_at p t ≡ Some m → node_at (p ++ i ∷ []) t ≡ nth_child i (children_of m)
node_at_child p t m i is = node_at-append p (i ∷ []) t ∙ ap (option_and_then (node_at (i ∷ []))) is ∙ node_at_end (nth_child i (children_of m))

-- where some node is, this is it
pub node_there : (o : Option Tree) → IsSome o → (m : Tree) × (o ≡ Some m)
node_there None there = cc
node_there (Some m) there = (m, refl)

-- where a look at something gives an answer, something is there
pub through : {X Y : Type 0} (f : X → Option Y) (o : Option X) (y : Y) → option_and_then f o ≡ Some y → (x : X) × (o ≡ Some x) × (f x ≡ Some y)
through f None y is = cc
through f (Some x) y is = (x, refl, is)

-- ---- the number of a place

-- numbers add up on the way down
pub place_number-append : (p q : List ℕ) (t m : Tree) → node_at p t ≡ Some m → place_number (p ++ q) t ≡ place_number p t + place_number q m
place_number-append [] q t m is =
    let same : t ≡ m = cc in
    omega (arith, ap (place_number q) same)
place_number-append (i ∷ p) q t m is =
    let (c, child, below) = through (node_at p) (nth_child i (children_of t)) m is in
    rw child (omega (arith, place_number-append p q c m below))

no_more : (o : Option Tree) → option_map_or (place_number []) o 0 ≡ 0
no_more None = refl
no_more (Some t) = refl

-- a child's number, or the one behind the last child's nodes
pub number_child : (p : List ℕ) (t m : Tree) (i : ℕ) → node_at p t ≡ Some m
    → place_number (p ++ i ∷ []) t ≡ suc (place_number p t) + nodes_of_all (first_trees i (children_of m))
number_child p t m i is = place_number-append p (i ∷ []) t m is ∙ omega (arith, no_more (nth_child i (children_of m)))

-- the first child's number comes behind its parent's
pub number_first : (p : List ℕ) (t m : Tree) → node_at p t ≡ Some m → place_number (p ++ 0 ∷ []) t ≡ suc (place_number p t)
number_first p t m is = number_child p t m 0 is ∙ omega arith

-- the next child's number comes behind those of the nodes under the one before
pub number_next : (p : List ℕ) (t m : Tree) (i : ℕ) (c : Tree) → node_at p t ≡ Some m → nth_child i (children_of m) ≡ Some c
    → place_number (p ++ suc i ∷ []) t ≡ place_number (p ++ i ∷ []) t + nodes c
number_next p t m i c is child =
    number_child p t m (suc i) is ∙ omega (arith, nodes_next i (children_of m) c child, number_child p t m i is)

-- the nodes under one have their numbers within the tree
pub number_end : (p : List ℕ) (t m : Tree) → node_at p t ≡ Some m → place_number p t + nodes m ≤ nodes t
number_end [] t m is =
    let same : t ≡ m = cc in
    omega (arith, ap nodes same)
number_end (i ∷ p) (element name attributes children) m is =
    let (c, child, below) = through (node_at p) (nth_child i children) m is in
    rw child (omega (arith, nodes_within i children c child, number_end p c m below))
number_end (i ∷ p) (words text) m is = cc

-- a node's number is below how many there are
pub is_numbered : (p : List ℕ) (t m : Tree) → node_at p t ≡ Some m → place_number p t < nodes t
is_numbered p t m is = omega (arith, number_end p t m is, nodes-positive m)

-- ---- the numbers of all places

pub range-append : (a n k : ℕ) → range_with_len a (n + k) ≡ range_with_len a n ++ range_with_len (a + n) k
range-append a zero n = rw (zero-add, add-zero) refl
range-append a (suc m) n =
    let more : suc m + n ≡ suc (m + n) = omega arith in
    let next : a + 1 + m ≡ a + suc m = omega arith in
    ap (range_with_len a) more ∙ ap (λ ns. a ∷ ns) (range-append (a + 1) m n ∙ ap (λ k. range_with_len (a + 1) m ++ range_with_len k n) next)

numbers_joined : (root : Tree) (xs ys : List (List ℕ)) (a n k : ℕ) → map (λ q. place_number q root) xs ≡ range_with_len a n
    → map (λ q. place_number q root) ys ≡ range_with_len (a + n) k → map (λ q. place_number q root) (xs ++ ys) ≡ range_with_len a (n + k)
numbers_joined root xs ys a n k here there = map-append (λ q. place_number q root) xs ys ∙ rw (here, there) (sym (range-append a n k))

mutual
  -- at and under a node they are a range
  pub numbers_of : (root : Tree) (p : List ℕ) (m : Tree) → node_at p root ≡ Some m
      → map (λ q. place_number q root) (places_of p m) ≡ range_with_len (place_number p root) (nodes m)
  numbers_of root p (element name attributes children) is =
      let first : place_number (p ++ 0 ∷ []) root ≡ place_number p root + 1 = number_first p root _ is ∙ omega arith in
      let later = numbers_from root p 0 (element name attributes children) children is refl in
      ap (λ ns. place_number p root ∷ ns) (later ∙ ap (λ k. range_with_len k (nodes_of_all children)) first)
  numbers_of root p (words text) is = refl

  pub numbers_from : (root : Tree) (p : List ℕ) (i : ℕ) (m : Tree) (ts : Trees) → node_at p root ≡ Some m → trees_behind i (children_of m) ≡ ts
      → map (λ q. place_number q root) (places_from p i ts) ≡ range_with_len (place_number (p ++ i ∷ []) root) (nodes_of_all ts)
  numbers_from root p i m no_trees is behind = refl
  numbers_from root p i m (tree t ts) is behind =
      let (child, later) = nth_behind i (children_of m) t ts behind in
      let on : i + 1 ≡ suc i = omega arith in
      numbers_joined root (places_of (p ++ i ∷ []) t) (places_from p (i + 1) ts) (place_number (p ++ i ∷ []) root) (nodes t) (nodes_of_all ts)
      (numbers_of root (p ++ i ∷ []) t (node_at_child p root m i is ∙ child))
      (rw on (numbers_from root p (suc i) m ts is later) ∙ ap (λ k. range_with_len k (nodes_of_all ts)) (number_next p root m i t is child))

-- in document order the numbers count from 0 on
pub numbers_are : (t : Tree) → map (λ p. place_number p t) (places_of [] t) ≡ range_with_len 0 (nodes t)
numbers_are t = numbers_of t [] t refl

-- ---- numbers and places, either from the other

-- the number of the place with a number
pub number_of_numbered : (n : ℕ) (t : Tree) → n < nodes t → place_number (place_numbered n t) t ≡ n
number_of_numbered n t less =
    sym (get_or-map (λ p. place_number p t) (places_of [] t) n (count (children_of t) ∷ []) 0 (omega (arith, places-length [] t)))
    ∙ ap (λ ns. get_or ns n 0) (numbers_are t) ∙ get_or-range_with_len 0 (nodes t) n 0 less ∙ omega arith

-- the place with a place's number
pub numbered_of_number : (p : List ℕ) (t m : Tree) → node_at p t ≡ Some m → place_numbered (place_number p t) t ≡ p
numbered_of_number p t m is =
    let (k, less, at) = at_from_Contains (places_of [] t) p (has_of [] t p (rw is refl)) in
    let there : place_numbered k t ≡ p = at (count (children_of t) ∷ []) in
    let few : k < nodes t = omega (arith, less, places-length [] t) in
    let number : place_number p t ≡ k = ap (λ q. place_number q t) (sym there) ∙ number_of_numbered k t few in
    ap (λ j. place_numbered j t) number ∙ there

all_there : (t : Tree) (q : List ℕ) → IsOf [] t q → IsSome (node_at q t)
all_there t q (rest, is, there) = rw is there

-- below their count each number has a node
pub has_node : (n : ℕ) (t : Tree) → n < nodes t → IsSome (node_at (place_numbered n t) t)
has_node n t less =
    let listed : n < length (places_of [] t) = omega (arith, less, places-length [] t) in
    all_there t (place_numbered n t) (All-get_or (IsOf [] t) (places_of [] t) n (count (children_of t) ∷ []) listed (all_of [] t))

-- from their count on none has
pub has_none : (n : ℕ) (t : Tree) → nodes t ≤ n → node_at (place_numbered n t) t ≡ None
has_none n t past =
    let nowhere : place_numbered n t ≡ count (children_of t) ∷ [] = get_or_past (places_of [] t) n _ (omega (arith, past, places-length [] t)) in
    rw (nowhere, nth_past (count (children_of t)) (children_of t) (omega arith)) refl

-- two numbers of one place are the same
pub same_numbers : (n m : ℕ) (t : Tree) → n < nodes t → m < nodes t → place_numbered n t ≡ place_numbered m t → n ≡ m
same_numbers n m t less few same = sym (number_of_numbered n t less) ∙ ap (λ p. place_number p t) same ∙ number_of_numbered m t few

-- ---- steps from number to number

-- a node's children begin behind its own number
pub first_numbered : (n : ℕ) (t m : Tree) → n < nodes t → node_at (place_numbered n t) t ≡ Some m → 0 < count (children_of m)
    → (place_numbered (suc n) t ≡ place_numbered n t ++ 0 ∷ []) × (suc n < nodes t)
first_numbered n t m less is some =
    let (c, child) = nth_there 0 (children_of m) some in
    let there : node_at (place_numbered n t ++ 0 ∷ []) t ≡ Some c = node_at_child (place_numbered n t) t m 0 is ∙ child in
    let own : place_number (place_numbered n t) t ≡ n = number_of_numbered n t less in
    let number : place_number (place_numbered n t ++ 0 ∷ []) t ≡ suc n = number_first (place_numbered n t) t m is ∙ ap suc own in (
      ap (λ k. place_numbered k t) (sym number) ∙ numbered_of_number (place_numbered n t ++ 0 ∷ []) t c there,
      omega (arith, number, is_numbered (place_numbered n t ++ 0 ∷ []) t c there),
    )

-- where so many children stand, their parent does
pub parent_there : (o : Option Tree) (k : ℕ) → k < option_map_or (λ n. count (children_of n)) o 0
    → (m : Tree) × (o ≡ Some m) × (k < count (children_of m))
parent_there None k less = absurd (omega (arith, less))
parent_there (Some m) k less = (m, refl, less)

-- the next sibling's number comes behind those of the nodes under one
pub next_numbered : (n : ℕ) (t m : Tree) (at : List ℕ) (i : ℕ) → n < nodes t → node_at (place_numbered n t) t ≡ Some m
    → place_numbered n t ≡ at ++ i ∷ [] → suc i < child_count_at at t
    → (place_numbered (n + nodes m) t ≡ at ++ suc i ∷ []) × (n + nodes m < nodes t)
next_numbered n t m at i less is place some =
    let (u, parent, more) = parent_there (node_at at t) (suc i) some in
    let (c, child) = nth_there (suc i) (children_of u) more in
    let here : nth_child i (children_of u) ≡ Some m = sym (node_at_child at t u i parent) ∙ ap (λ p. node_at p t) (sym place) ∙ is in
    let there : node_at (at ++ suc i ∷ []) t ≡ Some c = node_at_child at t u (suc i) parent ∙ child in
    let own : place_number (at ++ i ∷ []) t ≡ n = ap (λ p. place_number p t) (sym place) ∙ number_of_numbered n t less in
    let number : place_number (at ++ suc i ∷ []) t ≡ n + nodes m = number_next at t u i m parent here ∙ ap (λ k. k + nodes m) own in (
      ap (λ k. place_numbered k t) (sym number) ∙ numbered_of_number (at ++ suc i ∷ []) t c there,
      omega (arith, number, is_numbered (at ++ suc i ∷ []) t c there),
    )

-- ---- the numbers under a node

below_there : (t : Tree) (p : List ℕ) (m : Tree) → node_at p t ≡ Some m → (q : List ℕ) → IsOf p m q → IsSome (node_at q t)
below_there t p m is q (rest, place, there) = rw (place, node_at-append p rest t, is) there

again : (t : Tree) (q : List ℕ) → IsSome (node_at q t) → place_numbered (place_number q t) t ≡ q
again t q there =
    let (m, is) = node_there (node_at q t) there in
    numbered_of_number q t m is

map_same : (f : List ℕ → List ℕ) (qs : List (List ℕ)) → All (λ q. f q ≡ q) qs → map f qs ≡ qs
map_same f [] same = refl
map_same f (q ∷ qs) same = rw (All-head (λ q. f q ≡ q) q qs same, map_same f qs (All-tail (λ q. f q ≡ q) q qs same)) refl

-- the places at and under a node are those with the numbers from its own on
pub of_numbered : (p : List ℕ) (t m : Tree) → node_at p t ≡ Some m
    → places_of p m ≡ map (λ k. place_numbered k t) (range_with_len (place_number p t) (nodes m))
of_numbered p t m is =
    sym (map_same (λ q. place_numbered (place_number q t) t) (places_of p m)
    (All-weaker (IsOf p m) (λ q. place_numbered (place_number q t) t ≡ q) (λ q of. again t q (below_there t p m is q of)) (places_of p m)
    (all_of p m)))
    ∙ sym (map-map (λ k. place_numbered k t) (λ q. place_number q t) (places_of p m))
    ∙ ap (map (λ k. place_numbered k t)) (numbers_of t p m is)

whole : (p : List ℕ) (m : Tree) → places_of p m ≡ p ∷ places_from p 0 (children_of m)
whole p (element name attributes children) = refl
whole p (words text) = refl

one_less : (f : ℕ → List ℕ) (p : List ℕ) (qs : List (List ℕ)) (n k : ℕ) → 0 < k
    → p ∷ qs ≡ map f (range_with_len n k) → qs ≡ map f (range_with_len (suc n) (k - 1))
one_less f p qs n zero some are = absurd (omega (arith, some))
one_less f p qs n (suc k) some are =
    let on : n + 1 ≡ suc n = omega arith in
    let less : suc k - 1 ≡ k = omega arith in
    let rest : qs ≡ map f (range_with_len (n + 1) k) = cc in
    rw less (rw on at rest)

-- the places under a node are those with the numbers behind its own
pub under_numbered : (n : ℕ) (t m : Tree) → n < nodes t → node_at (place_numbered n t) t ≡ Some m
    → (places_under (place_numbered n t) t ≡ map (λ k. place_numbered k t) (range_with_len (suc n) (nodes m - 1))) × (n + nodes m ≤ nodes t)
under_numbered n t m less is =
    let number : place_number (place_numbered n t) t ≡ n = number_of_numbered n t less in (
      ap (λ o. option_map_or (λ u. places_from (place_numbered n t) 0 (children_of u)) o []) is
          ∙ one_less (λ k. place_numbered k t) (place_numbered n t) _ n (nodes m) (nodes-positive m)
          (sym (whole (place_numbered n t) m) ∙ of_numbered (place_numbered n t) t m is
          ∙ ap (λ k. map (λ j. place_numbered j t) (range_with_len k (nodes m))) number),
      omega (arith, number, number_end (place_numbered n t) t m is),
    )
