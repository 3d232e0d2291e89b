use Rattle.std.proofs.Common.{length, map, ap, ◌∙◌}
use Rattle.std.proofs.lemmas.List.{length-map}
use Rattle.visit_replay.specs.RepairedSite.{site_by}
use Rattle.replay_workers.specs.inside.Clients.{plain_page}
use Rattle.replay_workers.specs.declared.in_order.Numbered.{Numbered}
use Rattle.replay_workers.proofs.OwnPages.{page_count}
use Rattle.replay_workers.proofs.pool.replay_with_pages.Goals as goal

pub by_number-requires-clause-count : goal.by_number-requires-clause-count
by_number-requires-clause-count g c =
    let site = site_by g.H.SiteLaw.page_of g.H.SiteLaw.signals c.args.hooks.now c.args.patch.now c.args.finding.now in
    ap length c.in_ok-outcomes.ensures
    ∙ page_count site (map plain_page c.as_slice-pages.result.now) (map (λ visit. visit.now) c.as_slice-listed.result.now)
    ∙ ap length (ap (map (λ visit. visit.now)) c.as_slice-listed.ensures.value ∙ c.in_ok-sorted.ensures)
    ∙ length-map c.as_slice-these.result.now (λ (one : Numbered). one.visit.now)
