-- What stands on top of a visit's page: this project's own rule.
use Rattle.std.specs.Prelude.{◌≡◌, ℕ, List, [], ◌++◌, decimal}
use Rattle.conflict_desk.specs.Book.{standing_in}
use Rattle.made_html.specs.Made.{IsMade}
use Rattle.review_pieces.specs.Pieces.{visit_html}
use Rattle.visit_view.specs.Deciding.{address_of, decide_part}
use Rattle.visit_view.specs.Words.{state_word}
use Rattle.visit_view.specs.declared.found_visit.FoundVisit.{FoundVisit}

-- which visit it is, how it stands, why it is a conflict, and the forms
pub record AddsTop (token : List ℕ) (found : FoundVisit) (old new : List ℕ) : Type 0 where
  pub opener : List ℕ
  pub opener_is_made : IsMade opener
  pub conflict : List ℕ
  pub conflict_is_made : IsMade conflict
  pub is : new ≡ old ++ visit_html found.client.now (decimal found.number)
      (state_word (standing_in found.docket.now found.case.now)) (address_of found.visits.now found.number)
      opener [] conflict
      (decide_part token found.client.now found.visits.now found.docket.now found.number found.case.now)
