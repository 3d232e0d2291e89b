-- One node more, for the loops over the nodes under one.
use Rattle.std.proofs.Common.{◌≡◌, ℕ, suc, ◌+◌, ◌-◌, ◌<◌, ◌≤◌, List, [], ◌∷◌, ◌++◌, map, flat_map, Some, refl, sym, ◌∙◌, ap, arith, append_assoc, append-nil}
use Rattle.std.specs.List.{range_with_len}
use Rattle.std.specs.Option.{option_map_or}
use Rattle.std.proofs.lemmas.Grind.{flat_map-append}
use Rattle.std.proofs.lemmas.List.Folds.{flat_map-map}
use Rattle.page_tree.specs.Tree.{Tree, element, words, Trees, no_trees, tree}
use Rattle.page_tree.specs.Limits.{nodes}
use Rattle.page_tree.specs.Look.{children_of, node_at, text_of, text_of_all, text_at}
use Rattle.page_tree.specs.Under.{places_of, places_from}
use Rattle.page_tree.specs.Number.{place_numbered}
use Rattle.page_tree.specs.inside.Table.{Line, lines, trees_behind}
use Rattle.page_tree.specs.inside.Rows.{line_in}
use Rattle.page_tree.specs.inside.Kept.{words_at}
use Rattle.page_tree.specs.inside.TextWalk.{texts_in}
use Rattle.page_tree.proofs.Numbers.{has_node, node_there, under_numbered, of_numbered, number_of_numbered, place_number, nth_behind, node_at_child}
use Rattle.page_tree.proofs.LookLaws.{end_there}

-- ---- places

pub range_step : (a e : ℕ) → a < e → range_with_len a (e - a) ≡ a ∷ range_with_len (a + 1) (e - (a + 1))
range_step a e less =
    let more : e - a ≡ suc (e - (a + 1)) = omega (arith, less) in
    ap (range_with_len a) more

pub place_step : {X : Type 0} (f : ℕ → X) (found all : List X) (a e : ℕ) → a < e → found ++ map f (range_with_len a (e - a)) ≡ all
    → (found ++ f a ∷ []) ++ map f (range_with_len (a + 1) (e - (a + 1))) ≡ all
place_step f found all a e less is =
    append_assoc found (f a ∷ []) (map f (range_with_len (a + 1) (e - (a + 1)))) ∙ ap (λ r. found ++ map f r) (sym (range_step a e less)) ∙ is

-- ---- texts

mutual
  -- a text is that of the nodes at and under its node
  texts_of_are : (root : Tree) (p : List ℕ) (m : Tree) → node_at p root ≡ Some m → text_of m ≡ flat_map (λ q. words_at q root) (places_of p m)
  texts_of_are root p (element name attributes children) is = rw is (texts_from_are root p 0 (element name attributes children) children is refl)
  texts_of_are root p (words text) is = rw is (sym (append-nil text))

  texts_from_are : (root : Tree) (p : List ℕ) (i : ℕ) (m : Tree) (ts : Trees) → node_at p root ≡ Some m → trees_behind i (children_of m) ≡ ts
      → text_of_all ts ≡ flat_map (λ q. words_at q root) (places_from p i ts)
  texts_from_are root p i m no_trees is behind = refl
  texts_from_are root p i m (tree t ts) is behind =
      let (child, later) = nth_behind i (children_of m) t ts behind in
      let on : i + 1 ≡ suc i = omega arith in
      rw (texts_of_are root (p ++ i ∷ []) t (node_at_child p root m i is ∙ child), texts_from_are root p (suc i) m ts is later, on)
      (sym (flat_map-append (λ q. words_at q root) (places_of (p ++ i ∷ []) t) (places_from p (suc i) ts)))

-- those at and under a node, from its number to its end
pub texts_first : (ls : List Line) (t : Tree) (n : ℕ) → ls ≡ lines t → n < nodes t
    → (texts_in t n ((line_in n ls).end - n) ≡ text_at (place_numbered n t) t) × ((line_in n ls).end ≤ nodes t)
texts_first ls t n is there =
    let (m, here) = node_there (node_at (place_numbered n t) t) (has_node n t there) in
    let end = end_there ls t n m is there here in
    let many : (line_in n ls).end - n ≡ nodes m = omega (arith, end) in
    let all = texts_of_are t (place_numbered n t) m here ∙ ap (flat_map (λ q. words_at q t)) (of_numbered (place_numbered n t) t m here)
    ∙ flat_map-map (λ q. words_at q t) (λ k. place_numbered k t) (range_with_len (place_number (place_numbered n t) t) (nodes m)) in (
      ap (texts_in t n) many ∙ ap (λ k. texts_in t k (nodes m)) (sym (number_of_numbered n t there)) ∙ sym all ∙ sym (ap (λ o. option_map_or text_of o []) here),
      omega (arith, end, (under_numbered n t m there here).1),
    )
