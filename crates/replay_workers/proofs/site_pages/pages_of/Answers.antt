use Rattle.replay_workers.proofs.site_pages.pages_of.Goals as goal

pub returns-then-is_none : goal.returns-then-is_none
returns-then-is_none g c = c.none-pages.ensures (g.H.SiteLaw.page_of c.args.hooks.now)

pub loop-visit-init : goal.loop-visit-init
loop-visit-init g c = c.none-pages.ensures (g.H.SiteLaw.page_of c.args.hooks.now)
