-- What stands in the list of the places under a node, and in which order.
use Rattle.std.proofs.Common.{◌≡◌, ℕ, zero, suc, ◌+◌, ◌<◌, length, List, [], ◌∷◌, ◌++◌, nat_eq, nat_lt, IsTrue, IsSome, Option, Some, None}
use Rattle.std.proofs.Common.{option_and_then, Contains, All, ◌↔◌, Less, Equal, nat_cmp, refl, sym, ◌∙◌, ap, arith, append_assoc, append-nil}
use Rattle.std.proofs.Common.{length-append, drop, true≢false}
use Rattle.std.specs.Option.{option_map_or}
use Rattle.std.specs.List.{starts_with}
use Rattle.std.specs.List.Sorted.{IsStrictlySortedBy}
use Rattle.std.specs.Cmp.{nat_cmp_is}
use Rattle.std.specs.Cmp.Lexicographic.{slice_cmp}
use Rattle.std.proofs.lemmas.Bool.{ltb-true, lt-ltb, and_parts, and_from}
use Rattle.std.proofs.lemmas.Bool.Decides.{Decides-eqb}
use Rattle.std.proofs.lemmas.Slice.Eq.{starts_is}
use Rattle.std.proofs.lemmas.List.Elements.{Contains-append_left, Contains-append_right, Contains-push, All-nil, All-cons, All-head, All-tail}
use Rattle.std.proofs.lemmas.List.Elements.{All-append, All-weaker, All-contains, All-from_recursion, recursion_from_All}
use Rattle.page_tree.specs.Tree.{Tree, element, words, Trees, no_trees, tree}
use Rattle.page_tree.specs.Look.{children_of, nth_child, node_at}
use Rattle.page_tree.specs.Under.{is_under, places_of, places_from, places_under}

-- ---- a node below another

-- the node so far below one of these trees
abbrev node_in : ℕ → List ℕ → Trees → Option Tree
node_in j rest ts = option_and_then (node_at rest) (nth_child j ts)

node_past : (p rest : List ℕ) (child : Option Tree) → ((t : Tree) → node_at (p ++ rest) t ≡ option_and_then (node_at rest) (node_at p t))
    → option_and_then (node_at (p ++ rest)) child ≡ option_and_then (node_at rest) (option_and_then (node_at p) child)
node_past p rest None later = refl
node_past p rest (Some t) later = later t

pub node_at-append : (p rest : List ℕ) (t : Tree) → node_at (p ++ rest) t ≡ option_and_then (node_at rest) (node_at p t)
node_at-append [] rest t = refl
node_at-append (i ∷ p) rest t = node_past p rest (nth_child i (children_of t)) (node_at-append p rest)

node_below : (p : List ℕ) (t n : Tree) (j : ℕ) (rest : List ℕ) → node_at p t ≡ Some n → node_at (p ++ j ∷ rest) t ≡ node_in j rest (children_of n)
node_below p t n j rest is = node_at-append p (j ∷ rest) t ∙ ap (option_and_then (node_at (j ∷ rest))) is

no_node_below : (p rest : List ℕ) (t : Tree) → node_at p t ≡ None → node_at (p ++ rest) t ≡ None
no_node_below p rest t is = node_at-append p rest t ∙ ap (option_and_then (node_at rest)) is

-- ---- a place under another

under_split : (p q rest : List ℕ) → q ≡ p ++ rest → length p < length q → (j : ℕ) × (rest : List ℕ) × (q ≡ p ++ j ∷ rest)
under_split p q [] is longer =
    let same : q ≡ p = is ∙ append-nil p in
    absurd (omega (arith, ap length same))
under_split p q (j ∷ rest) is longer = (j, rest, is)

under_is : (p q : List ℕ) → IsTrue (is_under p q) → (j : ℕ) × (rest : List ℕ) × (q ≡ p ++ j ∷ rest)
under_is p q under =
    let (longer, starts) = and_parts (nat_lt (length p) (length q)) (starts_with nat_eq q p) under in
    under_split p q (drop (length p) q) ((starts_is Decides-eqb q p (starts_with nat_eq q p) refl).0 starts) (ltb-true (length p) (length q) longer)

is_under-longer : (p : List ℕ) (j : ℕ) (rest : List ℕ) → IsTrue (is_under p (p ++ j ∷ rest))
is_under-longer p j rest =
    let longer : length p < length (p ++ j ∷ rest) = omega (arith, length-append p (j ∷ rest)) in
    and_from (nat_lt (length p) (length (p ++ j ∷ rest))) (starts_with nat_eq (p ++ j ∷ rest) p) (lt-ltb (length p) (length (p ++ j ∷ rest)) longer)
    ((starts_is Decides-eqb (p ++ j ∷ rest) p (starts_with nat_eq (p ++ j ∷ rest) p) refl).1 (j ∷ rest) refl)

-- ---- each place in the list has its node

abbrev pub IsOf : List ℕ → Tree → List ℕ → Type 0
IsOf at t q = (rest : List ℕ) × (q ≡ at ++ rest) × IsSome (node_at rest t)

abbrev IsFrom : List ℕ → ℕ → Trees → List ℕ → Type 0
IsFrom at i ts q = (j : ℕ) × (rest : List ℕ) × (q ≡ at ++ (i + j) ∷ rest) × IsSome (node_in j rest ts)

of_children : (at : List ℕ) (t : Tree) (q : List ℕ) → IsFrom at 0 (children_of t) q → IsOf at t q
of_children at t q (j, rest, is, there) =
    let same : 0 + j ≡ j = omega arith in
    (j ∷ rest, is ∙ ap (λ k. at ++ k ∷ rest) same, there)

from_first : (at : List ℕ) (i : ℕ) (t : Tree) (ts : Trees) (q : List ℕ) → IsOf (at ++ i ∷ []) t q → IsFrom at i (tree t ts) q
from_first at i t ts q (rest, is, there) =
    let same : i ≡ i + 0 = omega arith in
    (0, rest, is ∙ append_assoc at (i ∷ []) rest ∙ ap (λ k. at ++ k ∷ rest) same, there)

from_later : (at : List ℕ) (i : ℕ) (t : Tree) (ts : Trees) (q : List ℕ) → IsFrom at (i + 1) ts q → IsFrom at i (tree t ts) q
from_later at i t ts q (j, rest, is, there) =
    let same : i + 1 + j ≡ i + suc j = omega arith in
    (suc j, rest, is ∙ ap (λ k. at ++ k ∷ rest) same, there)

mutual
  pub all_of : (at : List ℕ) (t : Tree) → All (IsOf at t) (places_of at t)
  all_of at (element name attributes children) =
      All-cons (IsOf at (element name attributes children)) at (places_from at 0 children) ([], sym (append-nil at), refl)
      (All-weaker (IsFrom at 0 children) (IsOf at (element name attributes children)) (of_children at (element name attributes children))
      (places_from at 0 children) (all_from at 0 children))
  all_of at (words text) = All-cons (IsOf at (words text)) at [] ([], sym (append-nil at), refl) (All-nil (IsOf at (words text)))

  all_from : (at : List ℕ) (i : ℕ) (ts : Trees) → All (IsFrom at i ts) (places_from at i ts)
  all_from at i no_trees = All-nil (IsFrom at i no_trees)
  all_from at i (tree t ts) =
      All-append (IsFrom at i (tree t ts)) (places_of (at ++ i ∷ []) t) (places_from at (i + 1) ts)
      (All-weaker (IsOf (at ++ i ∷ []) t) (IsFrom at i (tree t ts)) (from_first at i t ts) (places_of (at ++ i ∷ []) t) (all_of (at ++ i ∷ []) t))
      (All-weaker (IsFrom at (i + 1) ts) (IsFrom at i (tree t ts)) (from_later at i t ts) (places_from at (i + 1) ts) (all_from at (i + 1) ts))

-- ---- each node is in the list

mutual
  pub has_of : (at : List ℕ) (t : Tree) (rest : List ℕ) → IsSome (node_at rest t) → Contains (places_of at t) (at ++ rest)
  has_of at (element name attributes children) [] there =
      rw append-nil (Contains-append_left (at ∷ []) (places_from at 0 children) at (Contains-push [] at))
  has_of at (element name attributes children) (j ∷ rest) there =
      let same : 0 + j ≡ j = omega arith in
      Contains-append_right (at ∷ []) (places_from at 0 children) (at ++ j ∷ rest) (rw same at (has_from at 0 children j rest there))
  has_of at (words text) [] there = rw append-nil (Contains-push [] at)
  has_of at (words text) (j ∷ rest) there = cc

  has_from : (at : List ℕ) (i : ℕ) (ts : Trees) (j : ℕ) (rest : List ℕ) → IsSome (node_in j rest ts)
      → Contains (places_from at i ts) (at ++ (i + j) ∷ rest)
  has_from at i no_trees j rest there = cc
  has_from at i (tree t ts) zero rest there =
      let same : i + 0 ≡ i = omega arith in
      rw (same, ← append_assoc at (i ∷ []) rest) (Contains-append_left (places_of (at ++ i ∷ []) t) (places_from at (i + 1) ts)
      ((at ++ i ∷ []) ++ rest) (has_of (at ++ i ∷ []) t rest there))
  has_from at i (tree t ts) (suc j) rest there =
      let same : i + suc j ≡ i + 1 + j = omega arith in
      rw same (Contains-append_right (places_of (at ++ i ∷ []) t) (places_from at (i + 1) ts) (at ++ (i + 1 + j) ∷ rest)
      (has_from at (i + 1) ts j rest there))

listed_at : (p : List ℕ) (t : Tree) (q : List ℕ) (found : Option Tree) → node_at p t ≡ found
    → Contains (option_map_or (λ n. places_from p 0 (children_of n)) found []) q ↔ (IsTrue (is_under p q) × IsSome (node_at q t))
listed_at p t q None is = (
  λ h. absurd (All-contains (λ other. ⊥) [] q (All-nil (λ other. ⊥)) h),
  λ h. let (j, rest, same) = under_is p q h.0 in
      absurd (true≢false (sym (rw (same, no_node_below p (j ∷ rest) t is) at h.1))),
)
listed_at p t q (Some n) is = (
  λ h. let (j, rest, same, there) = All-contains (IsFrom p 0 (children_of n)) (places_from p 0 (children_of n)) q (all_from p 0 (children_of n)) h in
      let first : 0 + j ≡ j = omega arith in
      let place : q ≡ p ++ j ∷ rest = same ∙ ap (λ k. p ++ k ∷ rest) first in
      (rw place (is_under-longer p j rest), rw (place, node_below p t n j rest is) there),
  λ h. let (j, rest, same) = under_is p q h.0 in
      let first : 0 + j ≡ j = omega arith in
      let there : IsSome (node_in j rest (children_of n)) = rw (same, node_below p t n j rest is) at h.1 in
      rw same (rw first at (has_from p 0 (children_of n) j rest there)),
)

-- a place is in the list exactly where it is under that one and a node is there
pub listed : (p : List ℕ) (t : Tree) (q : List ℕ) → Contains (places_under p t) q ↔ (IsTrue (is_under p q) × IsSome (node_at q t))
listed p t q = listed_at p t q (node_at p t) refl

-- ---- document order

cmp-append : (p xs ys : List ℕ) → slice_cmp nat_cmp (p ++ xs) (p ++ ys) ≡ slice_cmp nat_cmp xs ys
cmp-append [] xs ys = refl
cmp-append (i ∷ p) xs ys = rw (← nat_cmp_is i i Equal refl) (cmp-append p xs ys)

cmp-earlier : (p : List ℕ) (i : ℕ) (xs : List ℕ) (k : ℕ) (ys : List ℕ) → i < k → slice_cmp nat_cmp (p ++ i ∷ xs) (p ++ k ∷ ys) ≡ Less
cmp-earlier p i xs k ys less = cmp-append p (i ∷ xs) (k ∷ ys) ∙ rw (← nat_cmp_is i k Less less) refl

cmp-longer : (p : List ℕ) (k : ℕ) (ys : List ℕ) → slice_cmp nat_cmp p (p ++ k ∷ ys) ≡ Less
cmp-longer p k ys =
    let behind : slice_cmp nat_cmp (p ++ []) (p ++ k ∷ ys) ≡ Less = cmp-append p [] (k ∷ ys) in
    rw append-nil at behind

abbrev IsBefore : List ℕ → List ℕ → Type 0
IsBefore x y = slice_cmp nat_cmp x y ≡ Less

abbrev Ascends : List (List ℕ) → Type 0
Ascends xs = IsStrictlySortedBy (slice_cmp nat_cmp) xs

sorted-append : (xs ys : List (List ℕ)) → Ascends xs → Ascends ys
    → All (λ x. All (IsBefore x) ys) xs → Ascends (xs ++ ys)
unfolding IsStrictlySortedBy
sorted-append [] ys sorted more before = more
sorted-append (x ∷ xs) ys sorted more before = (
  recursion_from_All (IsBefore x) (xs ++ ys)
      (All-append (IsBefore x) xs ys (All-from_recursion (IsBefore x) xs sorted.0) (All-head (λ x. All (IsBefore x) ys) x xs before)),
  sorted-append xs ys sorted.1 more (All-tail (λ x. All (IsBefore x) ys) x xs before),
)

sorted-cons : (x : List ℕ) (xs : List (List ℕ)) → All (IsBefore x) xs → Ascends xs → Ascends (x ∷ xs)
unfolding IsStrictlySortedBy
sorted-cons x xs before sorted = (recursion_from_All (IsBefore x) xs before, sorted)

sorted-nil : Ascends []
unfolding IsStrictlySortedBy
sorted-nil = tt

below_node : (at : List ℕ) (ts : Trees) (q : List ℕ) → IsFrom at 0 ts q → IsBefore at q
below_node at ts q (j, rest, is, there) = rw is (cmp-longer at (0 + j) rest)

below_later : (at : List ℕ) (i : ℕ) (t : Tree) (ts : Trees) (x y : List ℕ) → IsOf (at ++ i ∷ []) t x → IsFrom at (i + 1) ts y → IsBefore x y
below_later at i t ts x y (before, is, there) (j, after, are, others) =
    rw (is, append_assoc at (i ∷ []) before, are) (cmp-earlier at i before (i + 1 + j) after (omega arith))

mutual
  sorted_of : (at : List ℕ) (t : Tree) → Ascends (places_of at t)
  sorted_of at (element name attributes children) =
      sorted-cons at (places_from at 0 children)
      (All-weaker (IsFrom at 0 children) (IsBefore at) (below_node at children) (places_from at 0 children) (all_from at 0 children))
      (sorted_from at 0 children)
  sorted_of at (words text) = sorted-cons at [] (All-nil (IsBefore at)) sorted-nil

  sorted_from : (at : List ℕ) (i : ℕ) (ts : Trees) → Ascends (places_from at i ts)
  sorted_from at i no_trees = sorted-nil
  sorted_from at i (tree t ts) =
      sorted-append (places_of (at ++ i ∷ []) t) (places_from at (i + 1) ts) (sorted_of (at ++ i ∷ []) t) (sorted_from at (i + 1) ts)
      (All-weaker (IsOf (at ++ i ∷ []) t) (λ x. All (IsBefore x) (places_from at (i + 1) ts))
      (λ x is. All-weaker (IsFrom at (i + 1) ts) (IsBefore x) (λ y are. below_later at i t ts x y is are) (places_from at (i + 1) ts)
      (all_from at (i + 1) ts))
      (places_of (at ++ i ∷ []) t) (all_of (at ++ i ∷ []) t))

in_order : (p : List ℕ) (found : Option Tree) → IsStrictlySortedBy (slice_cmp nat_cmp) (option_map_or (λ n. places_from p 0 (children_of n)) found [])
in_order p None = sorted-nil
in_order p (Some n) = sorted_from p 0 (children_of n)

-- the list ascends, position by position
pub ordered : (p : List ℕ) (t : Tree) → IsStrictlySortedBy (slice_cmp nat_cmp) (places_under p t)
ordered p t = in_order p (node_at p t)
