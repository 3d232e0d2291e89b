use Rattle.std.proofs.Common.{◌≡◌, ◌<◌, ◌≤◌, [], ◌∷◌, ◌++◌, option_map}
use Rattle.page_tree.specs.Look.{child_count_at}
use Rattle.page_tree.specs.Number.{place_numbered, first_trees, count_of}
use Rattle.page_tree.specs.inside.Kept.{children_at, is_element_of}
use Rattle.page_tree.proofs.page.Page.count_before.Given as goal

abbrev pub invariant-loop-i : goal.invariant-loop-i
invariant-loop-i l = record {
  here : l._i < child_count_at (place_numbered l.parent l.self) l.self → place_numbered l.sibling l.self ≡ place_numbered l.parent l.self ++ l._i ∷ [];
  counted : l.count ≡ count_of (is_element_of (option_map (λ name. name.now) l.name)) (first_trees l._i (children_at (place_numbered l.parent l.self) l.self));
  few : l.count ≤ l._i;
}
