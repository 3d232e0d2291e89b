use Rattle.std.proofs.Common.{◌≡◌, ◌++◌, drop, option_map}
use Rattle.serde_json.specs.View.{items_view}
use Rattle.site_line.specs.Members.{items_by}
use Rattle.site_line.specs.Decision.{decision_in}
use Rattle.site_line.proofs.reading.read_decisions.Given as goal

abbrev pub invariant-loop-entry : goal.invariant-loop-entry
invariant-loop-entry l =
    option_map (λ rest. l.decisions.items ++ rest) (items_by decision_in (items_view (drop l.entry-index l.entry-items)))
    ≡ items_by decision_in (items_view l.entry-items)
