-- The table that a page keeps, and its tree.
use Rattle.std.proofs.Common.{◌≡◌, List, subst, sym, ◌∙◌, ap}
use Rattle.page_tree.specs.Tree.{Tree}
use Rattle.page_tree.specs.Limits.{IsPage}
use Rattle.page_tree.specs.inside.Table.{Line, lines, tree_of_lines, IsTable}
use Rattle.page_tree.proofs.TableLaws.{grown_lines}

pub kept_tree : (ls : List Line) (t : Tree) → ls ≡ lines t → tree_of_lines ls ≡ t
kept_tree ls t is = ap tree_of_lines is ∙ grown_lines t

pub kept : (ls : List Line) (t : Tree) → ls ≡ lines t → IsPage t → IsTable ls
kept ls t is page =
    let tree = kept_tree ls t is in
    record { lines = is ∙ ap lines (sym tree); page = subst IsPage (sym tree) page }

pub same_trees : (t u : Tree) → lines t ≡ lines u → t ≡ u
same_trees t u same = sym (grown_lines t) ∙ ap tree_of_lines same ∙ grown_lines u
