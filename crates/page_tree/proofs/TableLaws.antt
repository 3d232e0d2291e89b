-- The table of a tree: its size, the tree that it stands for, and what each line says.
use Rattle.std.proofs.Common.{◌≡◌, ℕ, suc, ◌+◌, ◌-◌, ◌<◌, List, [], ◌∷◌, ◌++◌, length, map, get_or, take}
use Rattle.std.proofs.Common.{Some, refl, sym, ◌∙◌, ap, arith, length-append, append_assoc, append-nil}
use Rattle.std.specs.Prelude.{unwrap_or}
use Rattle.std.specs.Option.{option_map_or}
use Rattle.std.proofs.lemmas.List.{map-append, get_or-map, take_at, get_or_at}
use Rattle.page_tree.specs.Tree.{Attribute, Tree, element, words, Trees, no_trees, tree}
use Rattle.page_tree.specs.Limits.{nodes, nodes_of_all}
use Rattle.page_tree.specs.Look.{children_of, nth_child, node_at, count, name_at, child_count_at}
use Rattle.page_tree.specs.Under.{places_of, places_from}
use Rattle.page_tree.specs.Number.{place_numbered, first_trees}
use Rattle.page_tree.specs.inside.Table.{Line, nth_spot, line_of, lines_of, lines_from, lines, trees_behind, with_node, trees_of_lines, tree_of_lines}
use Rattle.page_tree.specs.inside.Kept.{attributes_at, words_at}
use Rattle.page_tree.specs.declared.rows.Spot.{Spot}
use Rattle.page_tree.proofs.Numbers.{place_number, places-length, nth_behind, node_at_child, number_first, number_next}

mutual
  -- a table has a line for each node
  pub lines-length : (spot : Spot) (at : ℕ) (t : Tree) → length (lines_of spot at t) ≡ nodes t
  lines-length spot at (element name attributes children) = ap suc (lines_from-length at 0 (suc at) children)
  lines-length spot at (words text) = refl

  pub lines_from-length : (parent : ℕ) (i at : ℕ) (ts : Trees) → length (lines_from parent i at ts) ≡ nodes_of_all ts
  lines_from-length parent i at no_trees = refl
  lines_from-length parent i at (tree t ts) =
      length-append (lines_of (nth_spot parent i) at t) (lines_from parent (suc i) (at + nodes t) ts)
      ∙ omega (arith, lines-length (nth_spot parent i) at t, lines_from-length parent (suc i) (at + nodes t) ts)

-- ---- the tree of a table

-- trees in front of others
abbrev pub followed : Trees → Trees → Trees
followed no_trees after = after
followed (tree t ts) after = tree t (followed ts after)

-- the first of them, as many as stand in front
pub first-followed : (ts after : Trees) → first_trees (count ts) (followed ts after) ≡ ts
first-followed no_trees after = refl
first-followed (tree t ts) after = ap (tree t) (first-followed ts after)

-- and those behind these
pub behind-followed : (ts after : Trees) → trees_behind (count ts) (followed ts after) ≡ after
behind-followed no_trees after = refl
behind-followed (tree t ts) after = behind-followed ts after

planted : (spot : Spot) (at : ℕ) (name : List ℕ) (attributes : List Attribute) (children after grown : Trees) → grown ≡ followed children after
    → with_node (line_of spot at (element name attributes children)) grown ≡ tree (element name attributes children) after
planted spot at name attributes children after grown is = rw (is, first-followed children after, behind-followed children after) refl

mutual
  -- the lines of a node grow into that node, in front of what grows from the lines behind them
  grown_of : (spot : Spot) (at : ℕ) (t : Tree) (rest : List Line) → trees_of_lines (lines_of spot at t ++ rest) ≡ tree t (trees_of_lines rest)
  grown_of spot at (element name attributes children) rest =
      planted spot at name attributes children (trees_of_lines rest) _ (grown_from at 0 (suc at) children rest)
  grown_of spot at (words text) rest = refl

  grown_from : (parent i at : ℕ) (ts : Trees) (rest : List Line)
      → trees_of_lines (lines_from parent i at ts ++ rest) ≡ followed ts (trees_of_lines rest)
  grown_from parent i at no_trees rest = refl
  grown_from parent i at (tree t ts) rest =
      let here = nth_spot parent i in
      ap trees_of_lines (append_assoc (lines_of here at t) (lines_from parent (suc i) (at + nodes t) ts) rest)
      ∙ grown_of here at t (lines_from parent (suc i) (at + nodes t) ts ++ rest) ∙ ap (tree t) (grown_from parent (suc i) (at + nodes t) ts rest)

-- a table stands for the tree that it was made from
pub grown_lines : (t : Tree) → tree_of_lines (lines t) ≡ t
grown_lines t =
    ap tree_of_lines (sym (append-nil (lines t))) ∙ ap (λ ts. unwrap_or (nth_child 0 ts) (words [])) (grown_of (nth_spot 0 0) 0 t [])

-- ---- each line, told by the place of its node

abbrev spot_at : Tree → List ℕ → Spot
spot_at root p = record {
  parent = place_number (take (length p - 1) p) root;
  position = get_or p (length p - 1) 0;
}

abbrev pub line_at : Tree → List ℕ → Line
line_at root p = record {
  name = name_at p root;
  text = words_at p root;
  attributes = attributes_at p root;
  spot = spot_at root p;
  end = place_number p root + option_map_or nodes (node_at p root) 0;
  children = child_count_at p root;
}

line_told : (root : Tree) (p : List ℕ) (spot : Spot) (m : Tree) → node_at p root ≡ Some m → spot ≡ spot_at root p → line_of spot (place_number p root) m ≡ line_at root p
line_told root p spot m is s = rw (s, is) refl

child_spot : (root : Tree) (p : List ℕ) (i : ℕ) → nth_spot (place_number p root) i ≡ spot_at root (p ++ i ∷ [])
child_spot root p i =
    let last : length p ≡ length (p ++ i ∷ []) - 1 = omega (arith, length-append p (i ∷ [])) in
    let up = ap (λ q. place_number q root) (sym (take_at p (i ∷ []) _ last)) in
    let at = sym (get_or_at p i [] 0 _ last) in
    cc (up, at)

root_spot : (t : Tree) → nth_spot 0 0 ≡ spot_at t []
root_spot (element name attributes children) = refl
root_spot (words text) = refl

mutual
  -- the lines of a node that stands there are those of the places at and under it
  lines_of_are : (root : Tree) (p : List ℕ) (spot : Spot) (m : Tree) → node_at p root ≡ Some m → spot ≡ spot_at root p
      → lines_of spot (place_number p root) m ≡ map (line_at root) (places_of p m)
  lines_of_are root p spot (element name attributes children) is s =
      let here = line_told root p spot (element name attributes children) is s in
      let under = ap (λ k. lines_from (place_number p root) 0 k children) (sym (number_first p root (element name attributes children) is))
      ∙ lines_from_are root p 0 (element name attributes children) children is refl in
      cc
  lines_of_are root p spot (words text) is s = ap (λ l. l ∷ []) (line_told root p spot (words text) is s)

  lines_from_are : (root : Tree) (p : List ℕ) (i : ℕ) (m : Tree) (ts : Trees) → node_at p root ≡ Some m → trees_behind i (children_of m) ≡ ts
      → lines_from (place_number p root) i (place_number (p ++ i ∷ []) root) ts ≡ map (line_at root) (places_from p i ts)
  lines_from_are root p i m no_trees is behind = refl
  lines_from_are root p i m (tree t ts) is behind =
      let (child, later) = nth_behind i (children_of m) t ts behind in
      let there = node_at_child p root m i is ∙ child in
      let on : i + 1 ≡ suc i = omega arith in
      rw (
        map-append,
        lines_of_are root (p ++ i ∷ []) _ t there (child_spot root p i),
        ← number_next p root m i t is child,
        on,
        lines_from_are root p (suc i) m ts is later,
      ) refl

-- the line with a number
pub line_numbered : (n : ℕ) (t : Tree) (d : Line) → n < nodes t → get_or (lines t) n d ≡ line_at t (place_numbered n t)
line_numbered n t d less =
    ap (λ ls. get_or ls n d) (lines_of_are t [] (nth_spot 0 0) t refl (root_spot t))
    ∙ get_or-map (line_at t) (places_of [] t) n (count (children_of t) ∷ []) d (omega (arith, less, places-length [] t))
