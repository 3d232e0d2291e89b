-- Where a client was: its visits in the logs that were gathered.
use Rattle.std.specs.Prelude.{ℕ, List, [], bytes_eq}
use Rattle.std.specs.Option.{option_map_or}
use Rattle.std.specs.Map.{lookup}
use Rattle.client_log.specs.Log.{kept_visit}
use Rattle.client_log.specs.declared.visit.Visit.{Visit}
use Rattle.lanes_in_turn.specs.declared.gathered.Gathered.{Gathered}

-- those that a client's log keeps; none, where it has no log
abbrev pub logged_visits : {R : Type 0} → Gathered R → List ℕ → List Visit
logged_visits logs client =
    option_map_or (λ lane. lane.log.log.visits) (lookup (bytes_eq client) logs.clients.entries) []

-- the address of the visit of that number; empty, where it isn't there
abbrev pub visit_address : List Visit → ℕ → List ℕ
visit_address visits number = option_map_or (λ visit. visit.address) (kept_visit number visits) []
