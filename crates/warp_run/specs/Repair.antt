-- What replaying on a repaired site makes of what was gathered: this project's own rule.
use Rattle.std.specs.Prelude.{ℕ, List, [], map, Option}
use Rattle.std.specs.List.{zip}
use Rattle.std.specs.Option.{option_or}
use Rattle.page_tree.specs.Tree.{Tree}
use Rattle.upload_reader.specs.declared.ending.Ending.{Ending}
use Rattle.client_log.specs.Log.{Log, cost_of}
use Rattle.client_log.specs.declared.visit.Visit.{Visit}
use Rattle.visit_replay.specs.Difference.{difference}
use Rattle.visit_replay.specs.Following.{outcomes}
use Rattle.visit_replay.specs.RepairedSite.{RepairedSite}
use Rattle.visit_replay.specs.declared.outcome.Outcome.{Outcome}
use Rattle.replay_workers.specs.Work.{outcomes_with_own}
use Rattle.conflict_desk.specs.Desk.{new_books}
use Rattle.conflict_desk.specs.declared.docket.Case.{Case}
use Rattle.conflict_desk.specs.declared.docket.Docket.{Docket}
use Rattle.lanes_in_turn.specs.declared.gathered.Gathered.{Gathered}
use Rattle.lanes_in_turn.specs.declared.gathered.LaneResult.{LaneResult}
use Rattle.lanes_in_turn.specs.declared.gathered.Stop.{Stop}
use Rattle.warp_run.specs.declared.repaired.ClientSummary.{ClientSummary}
use Rattle.warp_run.specs.declared.repaired.Repaired.{Repaired}

-- what is said of a client beside its visits
abbrev pub summary_by : List ℕ → ℕ → Option Ending → Log → ClientSummary
summary_by client taken end log =
    record { client = client; taken = taken; end = end; cost = cost_of log.visits; lost = log.lost }

abbrev pub summary_of : {R : Type 0} → List ℕ × LaneResult R → ClientSummary
summary_of entry = summary_by entry.0 entry.1.taken entry.1.end entry.1.log.log

-- of these clients with these dockets, on which nothing is decided
abbrev pub new_repaired : Stop → List ClientSummary → List Docket → Repaired
new_repaired stop clients dockets = record { stop = stop; clients = clients; desk = new_books dockets; decided = [] }

-- the page of a client's visit: its own, where it has one, else that of its address
abbrev pub visit_page : (List ℕ → Option Tree) → (List ℕ → ℕ → Option Tree) → List ℕ → Visit → Option Tree
visit_page page_of own_page client visit = option_or (own_page client visit.number) (page_of visit.address)

module _ (page_for : Visit → Option Tree) (same : Option (List (List ℕ))) where
  -- a visit with its outcome, and what its requests were where they differ
  abbrev pub as_case : Visit × Outcome → Case
  as_case one = record {
    visit = one.0.number;
    parent = one.0.parent;
    outcome = one.1;
    difference = difference same one.0 (page_for one.0) one.1;
  }

  -- the visits that the log keeps, with these outcomes
  abbrev pub docket_with : List ℕ → Log → List Outcome → Docket
  docket_with client log outcomes = record { client = client; cases = map as_case (zip log.visits outcomes) }

module _ (site : RepairedSite) where
  -- each visit that the log keeps, with the outcome that it has behind those before it
  abbrev pub docket_by : List ℕ → Log → Docket
  docket_by client log =
      docket_with (λ visit. site.page_of visit.address) site.same client log (outcomes site log.visits)

  abbrev pub docket_for : {R : Type 0} → List ℕ × LaneResult R → Docket
  docket_for entry = docket_by entry.0 entry.1.log.log

  -- the same where visits have such pages of their own
  abbrev pub docket_with_own : {R : Type 0} → (List ℕ → ℕ → Option Tree) → List ℕ × LaneResult R → Docket
  docket_with_own own_page entry = let log = entry.1.log.log in
      docket_with (visit_page site.page_of own_page entry.0) site.same entry.0 log
      (outcomes_with_own site own_page entry.0 log.visits)

  -- a docket for each client
  abbrev pub repaired_of : {R : Type 0} → Gathered R → Repaired
  repaired_of gathered =
      new_repaired gathered.stop (map summary_of gathered.clients.entries) (map docket_for gathered.clients.entries)
