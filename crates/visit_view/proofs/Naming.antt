-- What a cancel takes along is told by the places of the cases.
use Rattle.std.proofs.Common.{arith, ◌≡◌, ℕ, ◌<◌, List, ◌++◌, length, map, take, flat_map, Some, slice_get}
use Rattle.std.proofs.lemmas.Bool.Decides.{nat_tests}
use Rattle.client_log.specs.declared.visit.Visit.{Visit}
use Rattle.conflict_desk.specs.Book.{Book}
use Rattle.conflict_desk.specs.declared.docket.Case.{Case}
use Rattle.review_pieces.specs.Pieces.{along_html, along_none_html}
use Rattle.visit_view.specs.Deciding.{one_of, one_at, more_along, named, along_part}
use Rattle.visit_view.specs.Words.{counted_visits}
use Rattle.visit_view.proofs.Passing.{all_passing, first_passing, many_passing}

pub names_passing : (client : List ℕ) (visits : List Visit) (book : Book) (places : List ℕ) (below : List Case)
    → map (slice_get book.cases) places ≡ map Some below
    → flat_map (one_at client visits book) (take 100 places) ++ more_along client (length places) ≡ named client visits book below
names_passing client visits book places below e =
    let first : flat_map (one_at client visits book) (take 100 places) ≡ flat_map (one_of client visits book) (take 100 below) =
    all_passing (one_of client visits book) book.cases (take 100 places) (take 100 below) (first_passing 100 book.cases places below e) in
    let many = many_passing book.cases places below e in
    rw (first, many)

pub along_passing : (client : List ℕ) (visits : List Visit) (book : Book) (places : List ℕ) (below : List Case) (count items : List ℕ)
    → map (slice_get book.cases) places ≡ map Some below → count ≡ counted_visits (length places) → items ≡ named client visits book below
    → 0 < length places → along_html count items ≡ along_part client visits book below
along_passing client visits book places below count items e count_is items_is some =
    let many = many_passing book.cases places below e in
    grind (arith, nat_tests)
