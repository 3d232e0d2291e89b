-- What is still to be read of the text at or under a node.
use Rattle.std.specs.Prelude.{ℕ, ◌-◌, List, ◌++◌, flat_map}
use Rattle.std.specs.List.{range_with_len}
use Rattle.page_tree.specs.Tree.{Tree}
use Rattle.page_tree.specs.Number.{place_numbered}
use Rattle.page_tree.specs.inside.Kept.{words_at}
use Rattle.page_tree.specs.declared.text_walk.TextWalk.{TextWalk}

-- the texts of the nodes with so many numbers, joined
abbrev pub texts_in : Tree → ℕ → ℕ → List ℕ
texts_in t n many = flat_map (λ k. words_at (place_numbered k t) t) (range_with_len n many)

-- the rest of a text that was begun, and those behind it
abbrev pub unread_text : TextWalk → List ℕ
unread_text w = w.piece.now ++ texts_in w.page.now w.next (w.end - w.next)
