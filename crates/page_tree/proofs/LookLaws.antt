-- What a line of a page's table tells of the node with its number.
use Rattle.std.proofs.Common.{◌≡◌, ℕ, zero, suc, true, ◌+◌, ◌<◌, List, [], ◌∷◌, length, Some, refl, ◌∙◌, ap, subst}
use Rattle.page_tree.specs.Tree.{Tree, element, words, Trees, no_trees, tree}
use Rattle.page_tree.specs.Limits.{nodes, names_of, is_ascending, IsNamed, AreNamed, IsPage}
use Rattle.page_tree.specs.Look.{nth_child, node_at, attributes_of, children_of}
use Rattle.page_tree.specs.Number.{place_numbered}
use Rattle.page_tree.specs.inside.Table.{Line, lines}
use Rattle.page_tree.specs.inside.Rows.{line_in}
use Rattle.page_tree.proofs.Numbers.{has_node, node_there, through, number_of_numbered}
use Rattle.page_tree.proofs.TableLaws.{lines-length, line_at, line_numbered}

-- a table has a line for each node
pub line_count : (ls : List Line) (t : Tree) → ls ≡ lines t → length ls ≡ nodes t
line_count ls t is = ap length is ∙ lines-length _ 0 t

-- the line of a node
pub line_is : (ls : List Line) (t : Tree) (n : ℕ) → ls ≡ lines t → n < nodes t → line_in n ls ≡ line_at t (place_numbered n t)
line_is ls t n is there = ap (line_in n) is ∙ line_numbered n t _ there

pub end_there : (ls : List Line) (t : Tree) (n : ℕ) (m : Tree) → ls ≡ lines t → n < nodes t → node_at (place_numbered n t) t ≡ Some m
    → (line_in n ls).end ≡ n + nodes m
end_there ls t n m is there here =
    ap (λ l. l.end) (line_is ls t n is there) ∙ rw (here, number_of_numbered n t there) refl

-- ---- attributes ascend

children_named : (t : Tree) → IsNamed t → AreNamed (children_of t)
children_named (element name attributes children) (named, ascends, all) = all
children_named (words text) named = tt

nth_named : (ts : Trees) (i : ℕ) (c : Tree) → AreNamed ts → nth_child i ts ≡ Some c → IsNamed c
nth_named no_trees i c named is = cc
nth_named (tree t ts) zero c (first, others) is = let same : t ≡ c = cc in subst IsNamed same first
nth_named (tree t ts) (suc i) c (first, others) is = nth_named ts i c others is

named_below : (p : List ℕ) (t m : Tree) → IsNamed t → node_at p t ≡ Some m → IsNamed m
named_below [] t m named is = let same : t ≡ m = cc in subst IsNamed same named
named_below (i ∷ rest) t m named is =
    let (c, child, below) = through (node_at rest) (nth_child i (children_of t)) m is in
    named_below rest c m (nth_named (children_of t) i c (children_named t named) child) below

ascends_here : (m : Tree) → IsNamed m → is_ascending (names_of (attributes_of m)) ≡ true
ascends_here (element name attributes children) (named, ascends, all) = ascends
ascends_here (words text) named = refl

pub ascends_there : (ls : List Line) (t : Tree) (n : ℕ) → IsPage t → ls ≡ lines t → n < nodes t → is_ascending (names_of (line_in n ls).attributes) ≡ true
ascends_there ls t n page is there =
    let (m, here) = node_there (node_at (place_numbered n t) t) (has_node n t there) in
    ap (λ l. is_ascending (names_of l.attributes)) (line_is ls t n is there) ∙ rw here (ascends_here m (named_below (place_numbered n t) t m page.named here))
