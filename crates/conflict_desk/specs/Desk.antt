-- What a desk answers and what a decision does: this project's own rule.
use Rattle.std.specs.Prelude.{ℕ, nat_eq, List, if◌then◌else◌, bytes_eq, map, fold, Option, Some, None, option_map, option_and_then}
use Rattle.std.specs.Option.{option_eq, option_map_or}
use Rattle.std.specs.List.{IsDistinct, AllByRecursion}
use Rattle.std.specs.Map.{lookup}
use Rattle.indexmap.specs.IndexMap.{insert_entry}
use Rattle.conflict_desk.specs.Docket.{AreAscending}
use Rattle.conflict_desk.specs.Book.{Book, new_book, at_visit, front_visit, with_decision}
use Rattle.conflict_desk.specs.declared.docket.Case.{Case}
use Rattle.conflict_desk.specs.declared.docket.Docket.{Docket}
use Rattle.conflict_desk.specs.declared.decided.Choice.{Choice}
use Rattle.conflict_desk.specs.declared.decision.Decision.{Decision}
use Rattle.conflict_desk.specs.declared.fault.DeskFault.{DeskFault}
use Rattle.conflict_desk.specs.declared.fault.DeskFault.TheVariants.{NoClient, NotFront}

-- the book of each client, in the order of the dockets
abbrev pub Books : Type 0
Books = List (List ℕ × Book)

-- ---- the dockets that a desk takes

pub record AreDockets (dockets : List Docket) : Type 0 where
  pub clients : IsDistinct bytes_eq (map (λ docket. docket.client) dockets)
  pub visits : AllByRecursion (λ docket. AreAscending docket.cases) dockets

-- nothing is decided yet
abbrev pub new_books : List Docket → Books
new_books dockets = map (λ docket. (docket.client, new_book docket.cases)) dockets

-- ---- what it answers

abbrev pub book_of : List ℕ → Books → Option Book
book_of client books = lookup (bytes_eq client) books

-- what is said of the case of a client's visit, where both are there
abbrev pub by_case : {T : Type 0} → (Book → Case → T) → List ℕ → ℕ → Books → Option T
by_case f client visit books = option_and_then (λ book. at_visit f book visit) (book_of client books)

-- ---- what a decision does

-- Why that visit of a docket can't be decided: it isn't the front (C2).
abbrev pub refusal_of : ℕ → Book → Option DeskFault
refusal_of visit book =
    if option_eq nat_eq (front_visit book) (Some visit) then None else Some (NotFront (front_visit book))

-- Why that visit can't be decided: its client isn't there (C1), or it isn't its client's front (C2).
abbrev pub refusal : List ℕ → ℕ → Books → Option DeskFault
refusal client visit books = option_map_or (refusal_of visit) (book_of client books) (Some NoClient)

-- a decision more in a client's book
abbrev pub decided_on : List ℕ → ℕ → Choice → Books → Books
decided_on client visit choice books = let found = book_of client books in
    option_map_or (insert_entry bytes_eq books client) (option_map (with_decision visit choice) found) books

-- ---- any calls

-- a call that is refused changes nothing
abbrev pub after_call : Books → Decision → Books
after_call books call = let refused = refusal call.client call.visit books in
    option_map_or (λ _. books) refused (decided_on call.client call.visit call.choice books)

abbrev pub after_calls : Books → List Decision → Books
after_calls books calls = fold after_call books calls
