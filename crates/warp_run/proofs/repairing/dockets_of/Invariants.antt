use Rattle.std.proofs.Common.{◌≡◌, ◌++◌, map}
use Rattle.std.specs.List.{zip}
use Rattle.std.specs.Vec.Iter.{into_iter_items}
use Rattle.warp_run.specs.inside.Telling.{AreAllTold, docket_told}
use Rattle.warp_run.proofs.repairing.dockets_of.Given as goal

abbrev pub invariant-loop-client : goal.invariant-loop-client
invariant-loop-client g l = record {
  dockets :
      l.dockets.items ++ map (docket_told (g.H.SiteLaw.page_of l.hooks) l.finding) (zip l.client-iterator (into_iter_items l.rest))
      ≡ map (docket_told (g.H.SiteLaw.page_of l.hooks) l.finding) (zip l.initial.client-iterator (into_iter_items l.initial.rest));
  told : AreAllTold (g.H.SiteLaw.page_of l.hooks) l.finding (into_iter_items l.rest);
}
