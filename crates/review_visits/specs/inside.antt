-- What private contracts say of a visit that was found.
use Rattle.std.specs.Prelude.{◌≡◌, ℕ, List, Some, slice_get}
use Rattle.conflict_desk.specs.Docket.{case_of_visit}
use Rattle.conflict_desk.specs.Desk.{book_of}
use Rattle.replay_folder.specs.declared.replayed.Replayed.{Replayed}
use Rattle.visit_view.specs.declared.found_visit.FoundVisit.{FoundVisit}
use Rattle.review_visits.specs.Visit.{kept_visits}

-- its case stands at that place of its client's docket, and the log's visits are those of that client
pub record IsFoundVisit {R : Type 0} (replayed : Replayed R) (client : List ℕ) (visit : ℕ) (found : FoundVisit)
    : Type 0 where
  pub client_is : found.client.now ≡ client
  pub number_is : found.number ≡ visit
  pub book_is : book_of client replayed.repaired.desk ≡ Some found.docket.now
  pub at : slice_get found.docket.now.cases found.place ≡ Some found.case.now
  pub case_is : case_of_visit found.docket.now.cases visit ≡ Some found.case.now
  pub visits_are : found.visits.now ≡ kept_visits replayed client
