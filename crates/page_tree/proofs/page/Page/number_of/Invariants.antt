use Rattle.std.proofs.Common.{◌≡◌, ◌<◌, ◌++◌, drop}
use Rattle.page_tree.specs.Limits.{nodes}
use Rattle.page_tree.specs.Number.{place_numbered}
use Rattle.page_tree.proofs.page.Page.number_of.Given as goal

-- the way so far, and what is left of it
abbrev pub invariant-loop-position : goal.invariant-loop-position
invariant-loop-position l = (place_numbered l.number l.self ++ drop l.position-index l.place ≡ l.place) × (l.number < nodes l.self)
