use Rattle.std.proofs.Common.{◌≡◌, ◌<◌, ℕ, Bool, length}
use Rattle.conflict_desk.specs.inside.Links.{Follows}
use Rattle.conflict_desk.proofs.links.is_gone.Given as goal

abbrev pub decreases-loop-at : goal.decreases-loop-at
decreases-loop-at l = l.at

abbrev pub invariant-loop-at : goal.invariant-loop-at
invariant-loop-at l = record {
  within : l.at < length l.links;
  same : (said : ℕ → Bool) → Follows l.next l.links said → said l.place ≡ said l.at;
}
