use Rattle.std.proofs.Common.{◌≡◌, ℕ, List, Vec, Global, map, bytes_eq, Option, Result, Ok, Err, IfOk, sym, ap, subst, ◌∙◌}
use Rattle.std.specs.List.{zip, IsDistinct}
use Rattle.std.specs.Map.{keys_of}
use Rattle.page_tree.specs.Tree.{Tree}
use Rattle.own_pages.specs.OwnPages.{own_page_at}
use Rattle.visit_replay.specs.RepairedSite.{RepairedSite, site_by}
use Rattle.visit_replay.specs.declared.outcome.Outcome.{Outcome}
use Rattle.replay_workers.specs.Work.{outcomes_with_own}
use Rattle.replay_workers.specs.declared.pool.KeptVisits.{KeptVisits}
use Rattle.conflict_desk.specs.declared.docket.Docket.{Docket}
use Rattle.lanes_in_turn.specs.declared.gathered.LaneResult.{LaneResult}
use Rattle.warp_run.specs.Repair.{docket_with_own}
use Rattle.warp_run.specs.inside.{client_visits, lane_visits}
use Rattle.warp_run.proofs.RepairLaws.{by_outcomes, dockets_by, own_outcomes_are, dockets_clients, for_desk}
use Rattle.warp_run.proofs.repairing.replay_with_own.Goals as goal

-- what the visits of an entry give
abbrev given : {R : Type 0} → RepairedSite → (List ℕ → ℕ → Option Tree) → List ℕ × LaneResult R → List Outcome
given site own entry = outcomes_with_own site own entry.0 entry.1.log.log.visits

-- the dockets by the outcomes are those that are defined
dockets_are : {R E : Type 0} (site : RepairedSite) (own : List ℕ → ℕ → Option Tree) (kept : List KeptVisits) (entries : List (List ℕ × LaneResult R)) (outs : List (Vec Outcome Global))
    → map client_visits kept ≡ map lane_visits entries → map (λ own. own.items) outs ≡ map (λ one. outcomes_with_own site own one.client.now one.visits.now) kept → (r : Result (Vec Docket Global) E)
    → IfOk r (λ all. all.items ≡ map (by_outcomes site.page_of own site.same) (zip entries outs)) → IfOk r (λ all. all.items ≡ map (docket_with_own site own) entries)
dockets_are site own kept entries outs are gave (Err e) is = tt
dockets_are site own kept entries outs are gave (Ok all) is =
    is ∙ dockets_by site.page_of own site.same (given site own) entries outs (gave ∙ own_outcomes_are site own kept entries are)

-- each is of a client of its own
are_apart : {R V E : Type 0} (site : RepairedSite) (own : List ℕ → ℕ → Option Tree) (entries : List (List ℕ × LaneResult R)) (r : Result V E)
    → IfOk r (λ _. IsDistinct bytes_eq (keys_of entries)) → IfOk r (λ _. IsDistinct bytes_eq (map (λ docket. docket.client) (map (docket_with_own site own) entries)))
are_apart site own entries (Err e) distinct = tt
are_apart site own entries (Ok all) distinct =
    subst (IsDistinct bytes_eq) (sym (dockets_clients site.page_of own site.same (given site own) entries)) distinct

pub returns-clause-dockets : goal.returns-clause-dockets
returns-clause-dockets g c =
    dockets_are (site_by g.H.SiteLaw.page_of g.H.SiteLaw.signals c.args.hooks.now c.args.patch.now c.args.finding.now) (own_page_at c.args.own.now) c.as_slice.result.now c.args.clients.now.entries c.in-Ok.outcomes.items
    (ap (map client_visits) c.as_slice.ensures.value ∙ c.in_ok-kept.ensures.visits) c.in-Ok.ensures.ok c.told_dockets.result c.told_dockets.ensures.dockets

pub returns-clause-for_desk : goal.returns-clause-for_desk
returns-clause-for_desk g c =
    let site = site_by g.H.SiteLaw.page_of g.H.SiteLaw.signals c.args.hooks.now c.args.patch.now c.args.finding.now in
    let own = own_page_at c.args.own.now in
    let entries = c.args.clients.now.entries in
    for_desk c.told_dockets.result (λ all. all.items) (map (docket_with_own site own) entries) (returns-clause-dockets g c) c.told_dockets.ensures.ascend (are_apart site own entries c.told_dockets.result c.told_dockets.ensures.distinct)
