-- What is shown of a visit: this project's own rule.
use Rattle.std.specs.Prelude.{◌≡◌, ℕ, List, [], ◌++◌, Bool, is_some, Some, option_and_then, bytes_eq, decimal}
use Rattle.std.specs.Map.{lookup}
use Rattle.std.specs.Option.{option_map_or}
use Rattle.markup.specs.Drawing.{IsInertHtml}
use Rattle.client_log.specs.declared.visit.Visit.{Visit}
use Rattle.conflict_desk.specs.Docket.{case_of_visit}
use Rattle.conflict_desk.specs.Desk.{book_of}
use Rattle.conflict_desk.specs.Book.{Book, standing_in}
use Rattle.conflict_desk.specs.declared.docket.Case.{Case}
use Rattle.replay_folder.specs.declared.replayed.Replayed.{Replayed}
use Rattle.review_pieces.specs.Pieces.{visit_html, drawn_html}
use Rattle.made_html.specs.Made.{IsMade}
use Rattle.visit_view.specs.Deciding.{address_of, decide_part}
use Rattle.visit_view.specs.Words.{state_word}

-- ---- what there is of a visit

-- the desk has it
abbrev pub is_on_desk : {R : Type 0} → Replayed R → List ℕ → ℕ → Bool
is_on_desk replayed client visit =
    is_some (option_and_then (λ book. case_of_visit book.cases visit) (book_of client replayed.repaired.desk))

-- the visits that a client's log keeps
abbrev pub kept_visits : {R : Type 0} → Replayed R → List ℕ → List Visit
kept_visits replayed client =
    option_map_or (λ lane. lane.log.log.visits) (lookup (bytes_eq client) replayed.gathered.clients.entries) []

-- ---- its page

-- What is added: the client, the visit and how it stands, why it is a conflict, and the forms; and behind that the
-- rest, which is made of pieces and drawings.
pub record ShowsVisit {R : Type 0} (token client : List ℕ) (visit : ℕ) (replayed : Replayed R) (old new : List ℕ)
    : Type 0 where
  pub book : Book
  pub book_is : book_of client replayed.repaired.desk ≡ Some book
  pub case : Case
  pub case_is : case_of_visit book.cases visit ≡ Some case
  pub opener : List ℕ
  pub opener_is_made : IsMade opener
  pub conflict : List ℕ
  pub conflict_is_made : IsMade conflict
  pub rest : List ℕ
  pub rest_is_made : IsMade rest
  pub is : new ≡ old ++ (visit_html client (decimal visit) (state_word (standing_in book case))
      (address_of (kept_visits replayed client) visit) opener [] conflict
      (decide_part token client (kept_visits replayed client) book visit case) ++ rest)

-- ---- a page of it, drawn

pub record ShowsDrawing (old new : List ℕ) : Type 0 where
  pub title : List ℕ
  pub tree : List ℕ
  pub is_inert : IsInertHtml tree
  pub is : new ≡ old ++ drawn_html title tree

-- ---- the note behind a decision

-- nothing, or a note
pub record AddsNote (old new : List ℕ) : Type 0 where
  pub added : List ℕ
  pub is_made : IsMade added
  pub is : new ≡ old ++ added
