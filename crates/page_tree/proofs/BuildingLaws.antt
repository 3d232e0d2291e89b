-- The making of a table: what one child more does to it.
use Rattle.std.proofs.Common.{◌≡◌, ℕ, suc, ◌+◌, ◌<◌, ◌≤◌, List, [], ◌∷◌, ◌++◌, length, get_or, drop, Vec, rules, refl, sym, ◌∙◌, ap, arith, length-append, append_assoc}
use Rattle.std.proofs.lemmas.List.{at_drop_more, get_or_at, set_at}
use Rattle.page_tree.specs.Tree.{Attribute, Tree, element, words, Trees, no_trees, tree}
use Rattle.page_tree.specs.Limits.{nodes, nodes_of_all, max_nodes}
use Rattle.page_tree.specs.Look.{count}
use Rattle.page_tree.specs.inside.Table.{Line, line_on, nth_spot, lines_of, lines_from}
use Rattle.page_tree.specs.inside.Rows.{with_line_end}
use Rattle.page_tree.specs.declared.rows.Spot.{Spot}
use Rattle.page_tree.specs.declared.tree.Tree as code
use Rattle.std.specs.declared.alloc.Global.{Global}
use Rattle.page_tree.specs.Seen.{plain_tree, plain_trees}
use Rattle.page_tree.proofs.Counting.{nodes-positive}
use Rattle.page_tree.proofs.TableLaws.{lines-length, lines_from-length}

-- ---- a node

pub seen-Element : (name : List ℕ) (attributes : List Attribute) (children : Vec code.Tree Global)
    → plain_tree (code.Element name attributes children) ≡ element name attributes (plain_trees children.items)
seen-Element name attributes children = search (rules, code.the_lemmas)

pub seen-Words : (text : List ℕ) → plain_tree (code.Words text) ≡ words text
seen-Words text = search (rules, code.the_lemmas)

-- the row of an element, then those under it, then its end
pub element_built : (name : List ℕ) (attributes : List Attribute) (children : Trees) (spot : Spot) (many number : ℕ) (old pushed all : List Line)
    → many ≡ count children → number ≡ length old → pushed ≡ old ++ line_on (element name attributes no_trees) spot 0 many ∷ []
    → all ≡ pushed ++ lines_from number 0 (length pushed) children
    → with_line_end number (length all) all ≡ old ++ lines_of spot (length old) (element name attributes children)
element_built name attributes children spot many number old pushed all counts at push add =
    let line = line_on (element name attributes no_trees) spot 0 (count children) in
    let under = lines_from (length old) 0 (suc (length old)) children in
    let row : pushed ≡ old ++ line ∷ [] = rw counts at push in
    let size : length pushed ≡ suc (length old) = ap length row ∙ omega (arith, length-append old (line ∷ [])) in
    let whole : all ≡ old ++ line ∷ under = (rw (at, size) at add) ∙ ap (λ ls. ls ++ under) row ∙ append_assoc old (line ∷ []) under in
    let end : length all ≡ length old + nodes (element name attributes children) =
    ap length whole ∙ omega (arith, length-append old (line ∷ under), lines_from-length (length old) 0 (suc (length old)) children) in
    rw (end, at, whole, get_or_at old line under _ (length old) refl) (set_at old line under _ (length old) refl)

-- how many lines there are then
pub element_size : (name : List ℕ) (attributes : List Attribute) (children : Trees) (spot : Spot) (many number : ℕ) (old pushed all : List Line)
    → pushed ≡ old ++ line_on (element name attributes no_trees) spot 0 many ∷ []
    → all ≡ pushed ++ lines_from number 0 (length pushed) children
    → length all ≡ length old + nodes (element name attributes children)
element_size name attributes children spot many number old pushed all push add =
    let line = line_on (element name attributes no_trees) spot 0 many in
    let under = lines_from number 0 (length pushed) children in
    omega (arith, ap length push, ap length add, length-append old (line ∷ []), length-append pushed under, lines_from-length number 0 (length pushed) children)

-- ---- children

pub seen_next : (ts : List code.Tree) (i : ℕ) (t : code.Tree) → i < length ts → t ≡ get_or ts i t → plain_trees (drop i ts) ≡ tree (plain_tree t) (plain_trees (drop (i + 1) ts))
seen_next ts i t less is = at_drop_more plain_trees ts i t less ∙ ap (λ u. tree (plain_tree u) (plain_trees (drop (i + 1) ts))) (sym is)

-- one node was added, and others of its parent are added behind it
pub one_node : (table next : List Line) (parent i : ℕ) (t : Tree) → next ≡ table ++ lines_of (nth_spot parent i) (length table) t
    → (length next ≡ length table + nodes t)
    × ((ts : Trees) → next ++ lines_from parent (i + 1) (length next) ts ≡ table ++ lines_from parent i (length table) (tree t ts))
one_node table next parent i t is =
    let new = lines_of (nth_spot parent i) (length table) t in
    let on : i + 1 ≡ suc i = omega arith in
    let many : length next ≡ length table + nodes t = ap length is ∙ omega (arith, length-append table new, lines-length (nth_spot parent i) (length table) t) in (
      many,
      λ ts. rw (many, on) (ap (λ ls. ls ++ lines_from parent (suc i) (length table + nodes t) ts) is)
          ∙ append_assoc table new (lines_from parent (suc i) (length table + nodes t) ts),
    )

-- so many children were added to a table, and the rest is still to come
pub record Adding (old table : List Line) (parent i : ℕ) (children rest : Trees) : Type 0 where
  pub behind : i ≤ length table
  pub few : length table + nodes_of_all rest ≤ max_nodes
  pub lines : table ++ lines_from parent i (length table) rest ≡ old ++ lines_from parent 0 (length old) children

pub adding_next : (old table more : List Line) (parent i : ℕ) (children rest : Trees) (t : Tree)
    → more ≡ table ++ lines_of (nth_spot parent i) (length table) t
    → Adding old table parent i children (tree t rest) → Adding old more parent (i + 1) children rest
adding_next old table more parent i children rest t added a =
    let (many, joined) = one_node table more parent i t added in
    record {
      behind = omega (arith, a.behind, many, nodes-positive t);
      few = omega (arith, a.few, many);
      lines = joined rest ∙ a.lines;
    }
