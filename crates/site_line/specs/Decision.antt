-- The decisions that a site line has: this project's own format, in JSON (RFC 8259).
use Rattle.std.specs.Prelude.{ℕ, List, if◌then◌else◌, Option, Some, None, option_map, option_and_then, bytes_eq, codes}
use Rattle.std.specs.Option.{option_zip}
use Rattle.serde_json.specs.Data.{Data, Items, no_items, item}
use Rattle.serde_json.specs.Find.{as_array, as_str}
use Rattle.upload_reader.specs.Client.{is_client}
use Rattle.upload_reader.specs.Member.{number_in}
use Rattle.conflict_desk.specs.declared.decided.Choice.{Choice}
use Rattle.conflict_desk.specs.declared.decided.Choice.TheVariants.{Cancel, Keep}
use Rattle.conflict_desk.specs.declared.decision.Decision.{Decision}

-- the text of a client
abbrev pub client_named : Data → Option (List ℕ)
client_named d = option_and_then (λ text. if is_client text then Some text else None) (as_str d)

abbrev pub choice_said : List ℕ → Option Choice
choice_said text =
    if bytes_eq text (codes "cancel") then Some Cancel else (if bytes_eq text (codes "keep") then Some Keep else None)

abbrev pub decision_of : List ℕ × (ℕ × Choice) → Decision
decision_of said = record { client = said.0; visit = said.1.0; choice = said.1.1 }

-- An entry is an array of just three: the text of a client, the number of its visit, from 1 to the greatest, and the
-- text of what was chosen. Any other entry is Z2.
abbrev pub decision_among : Items → Option Decision
decision_among (item client (item visit (item choice no_items))) = option_map decision_of
    (option_zip (client_named client) (option_zip (number_in 1 visit) (option_and_then choice_said (as_str choice))))
decision_among _ = None

abbrev pub decision_in : Data → Option Decision
decision_in d = option_and_then decision_among (as_array d)
