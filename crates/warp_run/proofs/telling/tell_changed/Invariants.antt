use Rattle.std.proofs.Common.{◌≡◌, map}
use Rattle.replay_workers.specs.SitePages.{IsLastOf}
use Rattle.warp_run.specs.inside.Telling.{AreAllTold, as_pairs}
use Rattle.warp_run.proofs.telling.tell_changed.Given as goal

abbrev pub invariant-loop-one : goal.invariant-loop-one
invariant-loop-one g l = record {
  pairs : map as_pairs l.all.items ≡ map as_pairs l.initial.all.items;
  told : AreAllTold (g.H.SiteLaw.page_of l.hooks) l.finding l.all.items;
  last : IsLastOf (g.H.SiteLaw.page_of l.hooks) l.finding l.last;
}
