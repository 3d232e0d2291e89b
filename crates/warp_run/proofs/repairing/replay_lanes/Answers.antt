use Rattle.std.proofs.Common.{◌≡◌, ℕ, List, Vec, Global, map, bytes_eq, Option, None, Result, Ok, Err, IfOk, sym, ap, subst, ◌∙◌}
use Rattle.std.specs.Borrow.{Bor}
use Rattle.std.specs.List.{zip, IsDistinct}
use Rattle.std.specs.Map.{keys_of}
use Rattle.page_tree.specs.Tree.{Tree}
use Rattle.client_log.specs.declared.visit.Visit.{Visit}
use Rattle.own_pages.specs.OwnPages.{own_page_at}
use Rattle.visit_replay.specs.Following.{outcomes}
use Rattle.visit_replay.specs.RepairedSite.{RepairedSite, site_by}
use Rattle.visit_replay.specs.declared.outcome.Outcome.{Outcome}
use Rattle.conflict_desk.specs.declared.docket.Docket.{Docket}
use Rattle.lanes_in_turn.specs.declared.gathered.LaneResult.{LaneResult}
use Rattle.warp_run.specs.Repair.{docket_for}
use Rattle.warp_run.proofs.RepairLaws.{by_outcomes, dockets_by, kept_of, with_none, kept_outcomes, clients_for, for_desk}
use Rattle.warp_run.proofs.repairing.replay_lanes.Goals as goal

-- the dockets by the outcomes are those that are defined
dockets_are : {R E : Type 0} (site : RepairedSite) (own : List ℕ → ℕ → Option Tree) (lists : List (Bor (List Visit))) (entries : List (List ℕ × LaneResult R)) (outs : List (Vec Outcome Global))
    → ((other : List ℕ) (number : ℕ) → own other number ≡ None) → map (λ visits. visits.now) lists ≡ map (λ entry. entry.1.log.log.visits) entries
    → map (λ own. own.items) outs ≡ map (λ visits. outcomes site visits.now) lists → (r : Result (Vec Docket Global) E)
    → IfOk r (λ all. all.items ≡ map (by_outcomes site.page_of own site.same) (zip entries outs)) → IfOk r (λ all. all.items ≡ map (docket_for site) entries)
dockets_are site own lists entries outs none are gave (Err e) is = tt
dockets_are site own lists entries outs none are gave (Ok all) is =
    is ∙ (dockets_by site.page_of own site.same (kept_of site) entries outs (gave ∙ kept_outcomes site lists entries are) ∙ with_none site own entries none)

-- each is of a client of its own
are_apart : {R V E : Type 0} (site : RepairedSite) (entries : List (List ℕ × LaneResult R)) (r : Result V E)
    → IfOk r (λ _. IsDistinct bytes_eq (keys_of entries)) → IfOk r (λ _. IsDistinct bytes_eq (map (λ docket. docket.client) (map (docket_for site) entries)))
are_apart site entries (Err e) distinct = tt
are_apart site entries (Ok all) distinct = subst (IsDistinct bytes_eq) (sym (clients_for site entries)) distinct

pub returns-clause-dockets : goal.returns-clause-dockets
returns-clause-dockets g c =
    dockets_are (site_by g.H.SiteLaw.page_of g.H.SiteLaw.signals c.args.hooks.now c.args.patch.now c.args.finding.now) (own_page_at c.new-none.result) c.as_slice.result.now c.args.clients.now.entries
    c.in-Ok.outcomes.items c.new-none.ensures (ap (map (λ visits. visits.now)) c.as_slice.ensures.value ∙ c.in_ok-visits.ensures) c.in-Ok.ensures.ok c.told_dockets.result c.told_dockets.ensures.dockets

pub returns-clause-for_desk : goal.returns-clause-for_desk
returns-clause-for_desk g c =
    let site = site_by g.H.SiteLaw.page_of g.H.SiteLaw.signals c.args.hooks.now c.args.patch.now c.args.finding.now in
    let entries = c.args.clients.now.entries in
    for_desk c.told_dockets.result (λ all. all.items) (map (docket_for site) entries) (returns-clause-dockets g c) c.told_dockets.ensures.ascend (are_apart site entries c.told_dockets.result c.told_dockets.ensures.distinct)
