-- How many nodes some trees of the code have.
use Rattle.std.specs.Prelude.{ℕ, List}
use Rattle.page_tree.specs.Seen.{plain_trees}
use Rattle.page_tree.specs.declared.tree.Tree as code
use Rattle.page_tree.specs.Limits.{nodes_of_all}

abbrev pub nodes_in : List code.Tree → ℕ
nodes_in ts = nodes_of_all (plain_trees ts)
