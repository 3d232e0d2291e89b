-- The text that a Text control starts with, as it is told without a copy of it.
use Rattle.std.specs.Prelude.{ℕ, List, [], ◌∷◌}
use Rattle.std.specs.List.{flat_map}
use Rattle.std.specs.Option.{option_map_or}
use Rattle.page_tree.specs.Tree.{Tree, Trees, no_trees, tree}
use Rattle.page_tree.specs.Look.{node_at, children_of, words_of}
use Rattle.page_tree.specs.Number.{place_numbered}
use Rattle.page_tree.specs.declared.starting.StartText.{StartText}
use Rattle.page_tree.specs.declared.starting.StartText.TheVariants.{Whole, OfChildren}

-- what each of these says, which is nothing of an element
abbrev pub words_in : Trees → List (List ℕ)
words_in no_trees = []
words_in (tree t ts) = words_of t ∷ words_in ts

-- of the children of the node with that number
abbrev pub texts_below : Tree → ℕ → List (List ℕ)
texts_below page number = option_map_or (λ t. words_in (children_of t)) (node_at (place_numbered number page) page) []

abbrev pub text_started : Tree → ℕ → StartText → List ℕ
text_started page number (Whole text) = text.now
text_started page number OfChildren = flat_map (λ w. w) (texts_below page number)
