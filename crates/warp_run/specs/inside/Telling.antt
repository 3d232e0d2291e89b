-- Visits with their outcomes, of some of which it is told already what their requests were.
use Rattle.std.specs.Prelude.{ℕ, ◌≡◌, List, All, Option, option_map, IfSome, Vec, map}
use Rattle.std.specs.List.{zip}
use Rattle.std.specs.Option.{option_or}
use Rattle.std.specs.declared.alloc.Global.{Global}
use Rattle.page_tree.specs.Tree.{Tree}
use Rattle.client_log.specs.declared.visit.Visit.{Visit}
use Rattle.visit_replay.specs.declared.outcome.Outcome.{Outcome}
use Rattle.replay_workers.specs.declared.pool.KeptVisits.{KeptVisits}
use Rattle.conflict_desk.specs.declared.docket.Case.{Case}
use Rattle.conflict_desk.specs.declared.docket.Docket.{Docket}
use Rattle.lanes_in_turn.specs.declared.gathered.LaneResult.{LaneResult}
use Rattle.warp_run.specs.Repair.{as_case}
use Rattle.warp_run.specs.declared.telling.ToldVisit.{ToldVisit}

-- a visit, the page of its own that it has, if any, and its outcome
abbrev pub as_pair : ToldVisit → (Visit × Option Tree) × Outcome
as_pair one = ((one.visit.now, option_map (λ page. page.now) one.own), one.outcome)

abbrev pub as_pairs : Vec ToldVisit Global → List ((Visit × Option Tree) × Outcome)
as_pairs told = map as_pair told.items

-- those of a client's visits with these outcomes
abbrev pub pairs_made : (List ℕ → ℕ → Option Tree) → KeptVisits × Vec Outcome Global
    → List ((Visit × Option Tree) × Outcome)
pairs_made own_page one =
    zip (map (λ visit. (visit, own_page one.0.client.now visit.number)) one.0.visits.now) one.1.items

module _ (page_of : List ℕ → Option Tree) (same : Option (List (List ℕ))) where
  abbrev pub case_made : (Visit × Option Tree) × Outcome → Case
  case_made one = as_case (λ visit. option_or one.0.1 (page_of visit.address)) same (one.0.0, one.1)

  -- what is told is right
  abbrev pub IsTold : ToldVisit → Type 0
  IsTold one = IfSome one.difference (λ told. told ≡ (case_made (as_pair one)).difference)

  abbrev pub AreTold : List ToldVisit → Type 0
  AreTold told = All IsTold told

  abbrev pub AreAllTold : List (Vec ToldVisit Global) → Type 0
  AreAllTold all = All (λ own. AreTold own.items) all

  abbrev pub docket_told : {R : Type 0} → (List ℕ × LaneResult R) × Vec ToldVisit Global → Docket
  docket_told one = record { client = one.0.0; cases = map case_made (as_pairs one.1) }
