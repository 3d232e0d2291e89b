use Rattle.std.proofs.Common.{ℕ, List, Option, ◌≡◌, ◌++◌, drop, map}
use Rattle.std.specs.List.{zip}
use Rattle.std.specs.Vec.Iter.{into_iter_items}
use Rattle.page_tree.specs.Tree.{Tree}
use Rattle.own_pages.specs.OwnPages.{own_page_at}
use Rattle.warp_run.specs.inside.Telling.{AreTold, as_pairs}
use Rattle.warp_run.proofs.telling.pair_up.Given as goal

abbrev pub invariant-loop-visit : goal.invariant-loop-visit
invariant-loop-visit l = record {
  pairs : as_pairs l.all ++ zip (map (λ visit. (visit, own_page_at l.own l.kept.client.now visit.number)) (drop l.visit-index l.kept.visits.now)) (into_iter_items l.rest)
      ≡ zip (map (λ visit. (visit, own_page_at l.own l.kept.client.now visit.number)) l.kept.visits.now) (into_iter_items l.initial.rest);
  told : (page_of : List ℕ → Option Tree) (same : Option (List (List ℕ))) → AreTold page_of same l.all.items;
}
