-- The numbers under a node, from the next one to the end of its line.
use Rattle.std.proofs.Common.{◌≡◌, ℕ, suc, ◌-◌, ◌<◌, ◌≤◌, List, [], ◌∷◌, ◌++◌, length, take, get_or, take_all, take-suc, map, Option, Some, None}
use Rattle.std.proofs.Common.{option_and_then, inl, inr, refl, sym, ◌∙◌, ap, arith}
use Rattle.std.specs.List.{range_with_len}
use Rattle.std.proofs.lemmas.Bool.Decides.{leb_tells}
use Rattle.std.specs.Option.{option_map_or}
use Rattle.page_tree.specs.Tree.{Tree, element, words}
use Rattle.page_tree.specs.Limits.{nodes}
use Rattle.page_tree.specs.Look.{node_at, child_count_at, count, children_of}
use Rattle.page_tree.specs.Under.{places_from, places_under}
use Rattle.page_tree.specs.Number.{place_numbered}
use Rattle.page_tree.specs.inside.Table.{Line, lines}
use Rattle.page_tree.specs.inside.Rows.{line_in}
use Rattle.page_tree.proofs.Below.{node_at-append}
use Rattle.page_tree.proofs.Counting.{nodes-positive}
use Rattle.page_tree.proofs.Numbers.{place_number, number_of_numbered, numbered_of_number, number_child, has_node, has_none, node_there, nth_there, nth_past}
use Rattle.page_tree.proofs.Numbers.{node_at_child, through, parent_there, first_numbered, next_numbered, under_numbered}
use Rattle.page_tree.proofs.LookLaws.{line_is, end_there}

abbrev places_in : Tree → ℕ → ℕ → List (List ℕ)
places_in t start end = map (λ k. place_numbered k t) (range_with_len start (end - start))

-- the end of a node's line
pub ends : (ls : List Line) (t : Tree) (n : ℕ) → ls ≡ lines t → n < nodes t → (suc n ≤ (line_in n ls).end) × ((line_in n ls).end ≤ nodes t)
ends ls t n is there =
    let (m, here) = node_there (node_at (place_numbered n t) t) (has_node n t there) in
    let end = end_there ls t n m is there here in
    (omega (arith, end, nodes-positive m), omega (arith, end, (under_numbered n t m there here).1))

pub under_there : (ls : List Line) (t : Tree) (n : ℕ) → ls ≡ lines t → n < nodes t
    → places_under (place_numbered n t) t ≡ places_in t (suc n) (line_in n ls).end
under_there ls t n is there =
    let (m, here) = node_there (node_at (place_numbered n t) t) (has_node n t there) in
    let many : nodes m - 1 ≡ (line_in n ls).end - suc n = omega (arith, end_there ls t n m is there here, nodes-positive m) in
    (under_numbered n t m there here).0 ∙ ap (λ k. map (λ k. place_numbered k t) (range_with_len (suc n) k)) many

pub first_there : (t : Tree) (n : ℕ) → n < nodes t → 0 < child_count_at (place_numbered n t) t
    → place_numbered (suc n) t ≡ place_numbered n t ++ 0 ∷ []
first_there t n there some =
    let (m, here, few) = parent_there (node_at (place_numbered n t) t) 0 some in
    (first_numbered n t m there here few).0

pub next_there : (ls : List Line) (t : Tree) (n : ℕ) (at : List ℕ) (i : ℕ) → ls ≡ lines t → n < nodes t → place_numbered n t ≡ at ++ i ∷ []
    → suc i < child_count_at at t
    → place_numbered (line_in n ls).end t ≡ at ++ suc i ∷ []
next_there ls t n at i is there place more =
    let (m, here) = node_there (node_at (place_numbered n t) t) (has_node n t there) in
    ap (λ k. place_numbered k t) (end_there ls t n m is there here) ∙ (next_numbered n t m at i there here place more).0

-- ---- past the last number

pub under_past : (t : Tree) (n : ℕ) → nodes t ≤ n → places_under (place_numbered n t) t ≡ places_in t n n
under_past t n past =
    let none : 0 ≡ n - n = omega arith in
    ap (λ o. option_map_or (λ m. places_from (place_numbered n t) 0 (children_of m)) o []) (has_none n t past)
    ∙ ap (λ k. map (λ k. place_numbered k t) (range_with_len n k)) none

pub next_past : (t : Tree) (n : ℕ) (at : List ℕ) (i : ℕ) → nodes t ≤ n → place_numbered n t ≡ at ++ i ∷ [] → suc i < child_count_at at t
    → place_numbered n t ≡ at ++ suc i ∷ []
next_past t n at i past place more =
    let (m, here, few) = parent_there (node_at at t) (suc i) more in
    let (c, child) = nth_there i (children_of m) (omega (arith, few)) in
    let none : None ≡ Some c = sym (has_none n t past) ∙ ap (λ p. node_at p t) place ∙ node_at_child at t m i here ∙ child in
    cc

-- a number whose place is that of a child is one
pub child_there : (t : Tree) (n : ℕ) (at : List ℕ) (i : ℕ) → place_numbered n t ≡ at ++ i ∷ [] → i < child_count_at at t → n < nodes t
child_there t n at i place less =
    let (m, here, few) = parent_there (node_at at t) i less in
    let (c, child) = nth_there i (children_of m) few in
    elim (leb_tells (nodes t) n) [
      | inl past ↦
          let none : None ≡ Some c = sym (has_none n t past.1) ∙ ap (λ p. node_at p t) place ∙ node_at_child at t m i here ∙ child in
          cc
      | inr there ↦ there.1
    ]

no_child : (o : Option Tree) (i : ℕ) (rest : List ℕ) → option_map_or (λ n. count (children_of n)) o 0 ≤ i
    → option_and_then (node_at (i ∷ rest)) o ≡ None
no_child None i rest past = refl
no_child (Some m) i rest past = ap (option_and_then (node_at rest)) (nth_past i (children_of m) past)

-- no node stands below a child that isn't there
pub no_node_past : (t : Tree) (p : List ℕ) (i : ℕ) (rest : List ℕ) → child_count_at p t ≤ i → node_at (p ++ i ∷ rest) t ≡ None
no_node_past t p i rest past = node_at-append p (i ∷ rest) t ∙ no_child (node_at p t) i rest past

pub root_numbered : (t : Tree) → place_numbered 0 t ≡ []
root_numbered (element name attributes children) = refl
root_numbered (words text) = refl

-- ---- the parent

below_root : (p : List ℕ) (t : Tree) (n : ℕ) → place_number p t ≡ n → 0 < n → 0 < length p
below_root [] t n number below = absurd (omega (arith, number, below))
below_root (i ∷ rest) t n number below = omega arith

last_split : (p : List ℕ) → 0 < length p → p ≡ take (length p - 1) p ++ get_or p (length p - 1) 0 ∷ []
last_split p some =
    let long : suc (length p - 1) ≡ length p = omega (arith, some) in
    sym (take_all (length p) p (omega arith)) ∙ ap (λ k. take k p) (sym long) ∙ take-suc p (length p - 1) 0 (omega (arith, some))

-- the line of a node below the root tells its parent's number, and where it stands there
pub up_there : (ls : List Line) (t : Tree) (n : ℕ) → ls ≡ lines t → n < nodes t → 0 < n
    → ((line_in n ls).spot.parent < n) × (place_numbered n t ≡ place_numbered (line_in n ls).spot.parent t ++ (line_in n ls).spot.position ∷ [])
up_there ls t n is there below =
    let p = place_numbered n t in
    let number = number_of_numbered n t there in
    let some : 0 < length p = below_root p t n number below in
    let split = last_split p some in
    let (m, here) = node_there (node_at p t) (has_node n t there) in
    let (parent, above, child) = through (node_at (get_or p (length p - 1) 0 ∷ [])) (node_at (take (length p - 1) p) t) m
    (sym (node_at-append (take (length p - 1) p) (get_or p (length p - 1) 0 ∷ []) t) ∙ ap (λ q. node_at q t) (sym split) ∙ here) in
    let line = line_is ls t n is there in
    let up : (line_in n ls).spot.parent ≡ place_number (take (length p - 1) p) t = ap (λ l. l.spot.parent) line in
    let at : (line_in n ls).spot.position ≡ get_or p (length p - 1) 0 = ap (λ l. l.spot.position) line in
    let own = sym number ∙ ap (λ q. place_number q t) split ∙ number_child (take (length p - 1) p) t parent (get_or p (length p - 1) 0) above in (
      omega (arith, up, own),
      split ∙ rw (up, at) (ap (λ q. q ++ get_or p (length p - 1) 0 ∷ [])
          (sym (numbered_of_number (take (length p - 1) p) t parent above))),
    )
