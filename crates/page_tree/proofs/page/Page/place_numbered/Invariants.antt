use Rattle.std.proofs.Common.{◌≡◌, ◌<◌, ◌++◌, reverse}
use Rattle.page_tree.specs.Limits.{nodes}
use Rattle.page_tree.specs.Number.{place_numbered}
use Rattle.page_tree.proofs.page.Page.place_numbered.Given as goal

-- the way up so far
abbrev pub invariant-loop-at : goal.invariant-loop-at
invariant-loop-at l = (place_numbered l.number l.self ≡ place_numbered l.at l.self ++ reverse l.positions.items) × (l.at < nodes l.self)

abbrev pub decreases-loop-at : goal.decreases-loop-at
decreases-loop-at l = l.at
