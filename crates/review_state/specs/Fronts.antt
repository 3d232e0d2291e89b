-- What each client has to be decided first: this project's own rule.
use Rattle.std.specs.Prelude.{ℕ, List, [], length, Option, option_map, option_and_then, slice_index_or}
use Rattle.std.specs.List.{filter_map, range_with_len}
use Rattle.conflict_desk.specs.Book.{front_visit}
use Rattle.conflict_desk.specs.Desk.{Books, book_of}
use Rattle.review_state.specs.declared.fronts.Front.{Front}

-- the least visit of that client that waits, where the desk has the client and one waits
abbrev pub front_of : Books → List ℕ → Option ℕ
front_of desk client = option_and_then front_visit (book_of client desk)

abbrev pub front_with : ℕ → ℕ → Front
front_with client visit = record { client = client; visit = visit }

abbrev pub front_at : Books → List (List ℕ) → ℕ → Option Front
front_at desk clients place = option_map (front_with place) (front_of desk (slice_index_or clients place []))

-- of all clients, in their order
abbrev pub fronts_of : Books → List (List ℕ) → List Front
fronts_of desk clients = filter_map (front_at desk clients) (range_with_len 0 (length clients))
