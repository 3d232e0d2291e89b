use Rattle.std.proofs.Common.{◌-◌, map}
use Rattle.visit_replay.specs.RepairedSite.{site_by}
use Rattle.replay_workers.specs.SitePages.{IsLastOf}
use Rattle.replay_workers.specs.Work.{own_page_outcomes}
use Rattle.replay_workers.specs.inside.Clients.{plain_page}
use Rattle.replay_workers.proofs.Divided.{next_after}
use Rattle.replay_workers.proofs.Working.{IsWorking}
use Rattle.replay_workers.proofs.share.work_with.Given as goal

abbrev pub decreases-loop-alloc : goal.decreases-loop-alloc
decreases-loop-alloc g l = l.claims.count - next_after l.seat.drawn

abbrev pub invariant-loop-alloc : goal.invariant-loop-alloc
invariant-loop-alloc g l = record {
  working : IsWorking (λ done. done.items) (own_page_outcomes (site_by g.H.SiteLaw.page_of g.H.SiteLaw.signals l.hooks l.patch l.finding) (map plain_page l.own_pages) (map (λ visit. visit.now) l.visits)) l.claims l.fn.seat l.seat l.done;
  last : IsLastOf (g.H.SiteLaw.page_of l.hooks) l.finding l.last;
}
