use Rattle.std.proofs.Common.{◌≡◌, ◌<◌, [], ◌∷◌, ◌++◌}
use Rattle.std.specs.Cow.{cow_str_bytes}
use Rattle.page_tree.specs.Look.{child_count_at}
use Rattle.page_tree.specs.Number.{place_numbered}
use Rattle.page_tree.specs.Control.{child_texts}
use Rattle.page_tree.specs.inside.Table.{trees_behind}
use Rattle.page_tree.specs.inside.Kept.{children_at}
use Rattle.page_tree.proofs.page.Page.child_texts.Given as goal

abbrev pub invariant-loop-i : goal.invariant-loop-i
invariant-loop-i l =
    (l._i < child_count_at (place_numbered l.number l.self) l.self → place_numbered l.child l.self ≡ place_numbered l.number l.self ++ l._i ∷ [])
    × (cow_str_bytes l.joined ++ child_texts (trees_behind l._i (children_at (place_numbered l.number l.self) l.self))
    ≡ child_texts (children_at (place_numbered l.number l.self) l.self))
