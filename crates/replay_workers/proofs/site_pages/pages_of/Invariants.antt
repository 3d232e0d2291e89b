use Rattle.replay_workers.specs.SitePages.{ArePagesOf}
use Rattle.replay_workers.proofs.site_pages.pages_of.Given as goal

abbrev pub invariant-loop-visit : goal.invariant-loop-visit
invariant-loop-visit g l = ArePagesOf (g.H.SiteLaw.page_of l.hooks) l.pages.all.items
