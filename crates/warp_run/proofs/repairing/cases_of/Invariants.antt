use Rattle.std.proofs.Common.{◌≡◌, ◌++◌, length, map}
use Rattle.std.specs.Vec.Iter.{into_iter_items}
use Rattle.warp_run.specs.inside.Telling.{AreTold, as_pair, case_made}
use Rattle.warp_run.proofs.repairing.cases_of.Given as goal

abbrev pub invariant-loop-one : goal.invariant-loop-one
invariant-loop-one g l = record {
  cases :
      l.cases.items ++ map (case_made (g.H.SiteLaw.page_of l.hooks) l.finding) (map as_pair (into_iter_items l.rest))
      ≡ map (case_made (g.H.SiteLaw.page_of l.hooks) l.finding) (map as_pair (into_iter_items l.initial.rest));
  told : AreTold (g.H.SiteLaw.page_of l.hooks) l.finding (into_iter_items l.rest);
}

abbrev pub decreases-loop-one : goal.decreases-loop-one
decreases-loop-one g l = length (into_iter_items l.rest)
