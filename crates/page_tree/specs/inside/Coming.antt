-- The texts among the children of a node that are still to come.
use Rattle.std.specs.Prelude.{ℕ, ◌<◌, ◌≤◌, List}
use Rattle.page_tree.specs.Tree.{Tree}
use Rattle.page_tree.specs.Look.{child_count_at}
use Rattle.page_tree.specs.Started.{words_in}
use Rattle.page_tree.specs.Number.{place_numbered, IsChild}
use Rattle.page_tree.specs.inside.Kept.{children_at}
use Rattle.page_tree.specs.inside.Table.{trees_behind}

-- behind so many children
abbrev pub texts_coming : Tree → ℕ → ℕ → List (List ℕ)
texts_coming page parent position = words_in (trees_behind position (children_at (place_numbered parent page) page))

-- the next child has that number, if there is one
pub record IsNextChild (page : Tree) (parent position child : ℕ) : Type 0 where
  pub within : position ≤ child_count_at (place_numbered parent page) page
  pub next : position < child_count_at (place_numbered parent page) page → IsChild page parent position child
