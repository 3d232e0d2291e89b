-- What a decision makes of the books, by what is known of its client's book and of why it is refused.
use Rattle.std.proofs.Common.{ℕ, List, bytes_eq, Option, option_map}
use Rattle.std.specs.Option.{option_map_or}
use Rattle.indexmap.specs.IndexMap.{insert_entry}
use Rattle.conflict_desk.specs.Book.{Book, with_decision}
use Rattle.conflict_desk.specs.Desk.{Books}
use Rattle.conflict_desk.specs.declared.decided.Choice.{Choice}
use Rattle.conflict_desk.specs.declared.fault.DeskFault.{DeskFault}

abbrev pub decided_in : List ℕ → ℕ → Choice → Books → Option Book → Books
decided_in client visit choice books found =
    option_map_or (insert_entry bytes_eq books client) (option_map (with_decision visit choice) found) books

abbrev pub unless_refused : Option DeskFault → Books → Books → Books
unless_refused refused new old = option_map_or (λ _. old) refused new
