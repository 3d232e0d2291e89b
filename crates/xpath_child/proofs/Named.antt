-- Each name on a page is one that a step may have.
use Rattle.std.proofs.Common.{◌≡◌, ℕ, zero, suc, List, [], ◌∷◌, Some, IsTrue, subst}
use Rattle.page_tree.specs.Tree.{Tree, element, words, Trees, no_trees, tree}
use Rattle.page_tree.specs.Name.{is_name}
use Rattle.page_tree.specs.Limits.{IsNamed, AreNamed, IsPage}
use Rattle.page_tree.specs.Look.{children_of, nth_child, node_at, name_of, name_at}
use Rattle.page_tree.proofs.Numbers.{through}

children_named : (t : Tree) → IsNamed t → AreNamed (children_of t)
children_named (element name attributes children) (named, ascends, all) = all
children_named (words text) named = tt

nth_named : (ts : Trees) (i : ℕ) (c : Tree) → AreNamed ts → nth_child i ts ≡ Some c → IsNamed c
nth_named no_trees i c named is = cc
nth_named (tree t ts) zero c (first, others) is = let same : t ≡ c = cc in subst IsNamed same first
nth_named (tree t ts) (suc i) c (first, others) is = nth_named ts i c others is

named_below : (place : List ℕ) (t m : Tree) → IsNamed t → node_at place t ≡ Some m → IsNamed m
named_below [] t m named is = let same : t ≡ m = cc in subst IsNamed same named
named_below (i ∷ rest) t m named is =
    let (c, child, below) = through (node_at rest) (nth_child i (children_of t)) m is in
    named_below rest c m (nth_named (children_of t) i c (children_named t named) child) below

own_name : (m : Tree) (name : List ℕ) → IsNamed m → name_of m ≡ Some name → IsTrue (is_name name)
own_name (element own attributes children) name (named, ascends, all) is = let same : own ≡ name = cc in subst (λ n. IsTrue (is_name n)) same named
own_name (words text) name named is = cc

pub name_there : (page : Tree) (place name : List ℕ) → IsPage page → name_at place page ≡ Some name → IsTrue (is_name name)
name_there page place name is there =
    let (m, here, own) = through name_of (node_at place page) name there in
    own_name m name (named_below place page m is.named here) own
