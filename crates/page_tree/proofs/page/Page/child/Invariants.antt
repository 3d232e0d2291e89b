use Rattle.std.proofs.Common.{◌≡◌, [], ◌∷◌, ◌++◌}
use Rattle.page_tree.specs.Number.{place_numbered}
use Rattle.page_tree.proofs.page.Page.child.Given as goal

abbrev pub invariant-loop-i : goal.invariant-loop-i
invariant-loop-i l = place_numbered l.child l.self ≡ place_numbered l.number l.self ++ l._i ∷ []
