-- The code by which a proof tells trees apart: equal codes are those of equal trees.
use Rattle.std.specs.Prelude.{◌≡◌, List, refl}
use Rattle.std.specs.Coded.{Coded, coded×, coded_list, coded_ℕ}
use base.Stored.{Gv, gnil, gcons}
use Rattle.page_tree.specs.Tree.{Attribute, Tree, element, words, Trees, no_trees, tree}

abbrev pub attributes_code : Coded (List Attribute)
attributes_code = coded_list (coded× (coded_list coded_ℕ) (coded_list coded_ℕ))

abbrev mutual
  pub code_of_tree : Tree → Gv
  code_of_tree (element name attributes children) =
      gcons (gcons ((coded_list coded_ℕ).code name) (attributes_code.code attributes)) (code_of_trees children)
  code_of_tree (words text) = gcons gnil ((coded_list coded_ℕ).code text)

  pub code_of_trees : Trees → Gv
  code_of_trees no_trees = gnil
  code_of_trees (tree t ts) = gcons (code_of_tree t) (code_of_trees ts)

mutual
  pub code_of_tree-injective : (t u : Tree) → code_of_tree t ≡ code_of_tree u → t ≡ u
  code_of_tree-injective (element n xs ts) (element m ys us) same =
      cc ((coded_list coded_ℕ).inj n m (cc), attributes_code.inj xs ys (cc), code_of_trees-injective ts us (cc))
  code_of_tree-injective (words s) (words r) same = cc ((coded_list coded_ℕ).inj s r (cc))
  code_of_tree-injective t u same = cc

  pub code_of_trees-injective : (ts us : Trees) → code_of_trees ts ≡ code_of_trees us → ts ≡ us
  code_of_trees-injective no_trees no_trees same = refl
  code_of_trees-injective (tree t ts) (tree u us) same =
      cc (code_of_tree-injective t u (cc), code_of_trees-injective ts us (cc))
  code_of_trees-injective ts us same = cc

abbrev pub tree_code : Coded Tree
tree_code = record { code = code_of_tree; inj = code_of_tree-injective }
