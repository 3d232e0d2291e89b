-- Elements counted among the siblings before a node.
use Rattle.std.proofs.Common.{◌≡◌, ℕ, zero, suc, ◌+◌, ◌-◌, ◌<◌, ◌≤◌, List, [], ◌∷◌, ◌++◌, length, get_or, Bool, true, false, if◌then◌else◌, bytes_eq, Option, Some, None, option_and_then, inl, inr, refl, sym, ◌∙◌, ap, arith}
use Rattle.std.specs.Option.{option_map_or}
use Rattle.std.proofs.lemmas.Bool.Decides.{leb_tells}
use Rattle.page_tree.specs.Tree.{Tree, element, words, Trees, no_trees, tree}
use Rattle.page_tree.specs.Limits.{nodes}
use Rattle.page_tree.specs.Look.{children_of, nth_child, node_at, name_of, name_at, count, child_count_at}
use Rattle.page_tree.specs.Number.{place_numbered, first_trees, count_of, siblings_before}
use Rattle.page_tree.specs.inside.Table.{Line, lines}
use Rattle.page_tree.specs.inside.Rows.{line_in}
use Rattle.page_tree.specs.inside.Kept.{children_at, is_element_of}
use Rattle.page_tree.proofs.Numbers.{nth_there, nth_past, node_at_child, node_there, through, has_node, has_none, parent_there}
use Rattle.page_tree.proofs.LookLaws.{line_is}
use Rattle.page_tree.proofs.NodesUnder.{root_numbered, up_there}

-- ---- the siblings before a node are the first children of its parent

before_child : (p : List ℕ) (t m : Tree) (i : ℕ) → node_at p t ≡ Some m → siblings_before (p ++ i ∷ []) t ≡ first_trees i (children_of m)
before_child [] t m i is =
    let same : t ≡ m = cc in
    ap (λ u. first_trees i (children_of u)) same
before_child (k ∷ []) t m i is =
    let (c, child, below) = through (node_at []) (nth_child k (children_of t)) m is in
    rw child (before_child [] c m i below)
before_child (k ∷ j ∷ p) t m i is =
    let (c, child, below) = through (node_at (j ∷ p)) (nth_child k (children_of t)) m is in
    rw child (before_child (j ∷ p) c m i below)

child_inside : (i : ℕ) (ts : Trees) (c : Tree) → nth_child i ts ≡ Some c → i ≤ count ts
child_inside i ts c child = elim (leb_tells (count ts) i) [
  | inl past ↦ let none : None ≡ Some c = sym (nth_past i ts past.1) ∙ child in cc
  | inr there ↦ omega (arith, there.1)
]

pub before_there : (ls : List Line) (t : Tree) (n : ℕ) → ls ≡ lines t → n < nodes t
    → (siblings_before (place_numbered n t) t ≡ first_trees (line_in n ls).spot.position (children_at (place_numbered (line_in n ls).spot.parent t) t))
    × ((line_in n ls).spot.position ≤ child_count_at (place_numbered (line_in n ls).spot.parent t) t)
before_there ls t zero is there =
    let none : (line_in 0 ls).spot.position ≡ 0 =
    ap (λ l. l.spot.position) (line_is ls t 0 is there) ∙ ap (λ p. get_or p (length p - 1) 0) (root_numbered t) in
    rw (root_numbered t, none) (refl, omega arith)
before_there ls t (suc n) is there =
    let l = line_in (suc n) ls in
    let p = place_numbered l.spot.parent t in
    let (less, place) = up_there ls t (suc n) is there (omega arith) in
    let (m, here) = node_there (node_at p t) (has_node l.spot.parent t (omega (arith, less, there))) in
    let (c, own) = node_there (node_at (place_numbered (suc n) t) t) (has_node (suc n) t there) in
    let child = sym (node_at_child p t m l.spot.position here) ∙ ap (λ q. node_at q t) (sym place) ∙ own in (
      ap (λ q. siblings_before q t) place ∙ before_child p t m l.spot.position here
          ∙ ap (first_trees l.spot.position) (sym (ap (λ o. option_map_or children_of o no_trees) here)),
      rw here (child_inside l.spot.position (children_of m) c child),
    )

-- what has a name is there
pub named_there : (t : Tree) (n : ℕ) (name : List ℕ) → name_at (place_numbered n t) t ≡ Some name → n < nodes t
named_there t n name is = elim (leb_tells (nodes t) n) [
  | inl past ↦ let none : None ≡ Some name = ap (option_and_then name_of) (sym (has_none n t past.1)) ∙ is in cc
  | inr there ↦ there.1
]

-- ---- one child more

two_counts : (b c : Bool) (m n : ℕ) → m ≡ (if c then suc n else n)
    → (if b then suc m else m) ≡ (if c then suc (if b then suc n else n) else (if b then suc n else n))
two_counts true true m n is = ap suc is
two_counts true false m n is = ap suc is
two_counts false true m n is = is
two_counts false false m n is = is

count_next : (test : Tree → Bool) (i : ℕ) (ts : Trees) (c : Tree) → nth_child i ts ≡ Some c
    → count_of test (first_trees (suc i) ts) ≡ count_of test (tree c (first_trees i ts))
count_next test i no_trees c is = cc
count_next test zero (tree t ts) c is =
    let same : t ≡ c = cc in
    ap (λ u. count_of test (tree u no_trees)) same
count_next test (suc i) (tree t ts) c is = two_counts (test t) (test c) _ _ (count_next test i ts c is)

abbrev named : Option (List ℕ) → Option (List ℕ) → Bool
named name own = option_map_or (λ own. option_map_or (bytes_eq own) name true) own false

tested : (name : Option (List ℕ)) (t : Tree) → is_element_of name t ≡ named name (name_of t)
tested None (element own attributes children) = refl
tested None (words text) = refl
tested (Some name) (element own attributes children) = refl
tested (Some name) (words text) = refl

pub counted_next : (name : Option (List ℕ)) (p : List ℕ) (t : Tree) (i n : ℕ) → i < child_count_at p t
    → n ≡ count_of (is_element_of name) (first_trees i (children_at p t))
    → (if named name (name_at (p ++ i ∷ []) t) then n + 1 else n) ≡ count_of (is_element_of name) (first_trees (i + 1) (children_at p t))
counted_next name p t i n less is =
    let (m, here, few) = parent_there (node_at p t) i less in
    let (c, child) = nth_there i (children_of m) few in
    let children : children_at p t ≡ children_of m = ap (λ o. option_map_or children_of o no_trees) here in
    let own : name_at (p ++ i ∷ []) t ≡ name_of c = ap (option_and_then name_of) (node_at_child p t m i here ∙ child) in
    let on : i + 1 ≡ suc i = omega arith in
    let more : n + 1 ≡ suc n = omega arith in
    rw (on, more, own, children) (rw (is, children, ← tested name c) (sym (count_next (is_element_of name) i (children_of m) c child)))
