use Rattle.std.proofs.Common.{◌≡◌, ◌-◌, ◌++◌, map}
use Rattle.std.specs.List.{range_with_len}
use Rattle.page_tree.specs.Under.{places_under}
use Rattle.page_tree.specs.Number.{place_numbered}
use Rattle.page_tree.proofs.page.Page.places_under.Given as goal

abbrev pub invariant-loop-below : goal.invariant-loop-below
invariant-loop-below l =
    l.found.items ++ map (λ k. place_numbered k l.self) (range_with_len l.below (l.below-end - l.below)) ≡ places_under l.place l.self
