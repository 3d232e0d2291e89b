use Rattle.std.proofs.Common.{ℕ, List, Option, ◌≡◌, ◌++◌, drop, map}
use Rattle.std.specs.List.{zip}
use Rattle.std.specs.Vec.Iter.{into_iter_items}
use Rattle.page_tree.specs.Tree.{Tree}
use Rattle.own_pages.specs.OwnPages.{own_page_at}
use Rattle.warp_run.specs.inside.Telling.{AreAllTold, as_pairs, pairs_made}
use Rattle.warp_run.proofs.telling.with_visits.Given as goal

abbrev pub invariant-loop-one : goal.invariant-loop-one
invariant-loop-one l = record {
  pairs : map as_pairs l.all.items ++ map (pairs_made (own_page_at l.own)) (zip (drop l.one-index l.clients) (into_iter_items l.rest))
      ≡ map (pairs_made (own_page_at l.own)) (zip l.clients (into_iter_items l.initial.rest));
  told : (page_of : List ℕ → Option Tree) (same : Option (List (List ℕ))) → AreAllTold page_of same l.all.items;
}
