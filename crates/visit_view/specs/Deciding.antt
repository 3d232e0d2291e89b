-- Where the two forms stand that a decision is sent by, and what they say: this project's own rule.
use Rattle.std.specs.Prelude.{ℕ, ◌-◌, List, [], ◌++◌, length, filter, take, slice_get, Bool, true, false, ◌==◌, if◌then◌else◌, nat_lt, codes, decimal}
use Rattle.std.specs.List.{flat_map}
use Rattle.std.specs.Option.{option_map_or}
use Rattle.client_log.specs.Log.{kept_visit}
use Rattle.client_log.specs.declared.visit.Visit.{Visit}
use Rattle.conflict_desk.specs.Below.{is_below_visit}
use Rattle.conflict_desk.specs.Book.{Book, front_visit, standing_in}
use Rattle.conflict_desk.specs.declared.docket.Case.{Case}
use Rattle.conflict_desk.specs.declared.decided.Standing.{Standing}
use Rattle.conflict_desk.specs.declared.decided.Standing.TheVariants.{Waiting}
use Rattle.visit_replay.specs.declared.outcome.Outcome.{Outcome}
use Rattle.visit_replay.specs.declared.outcome.Outcome.TheVariants.{Conflict}
use Rattle.review_pieces.specs.Pieces.{along_html, along_more_html, along_none_html, along_one_html, decide_html, not_front_html}
use Rattle.visit_view.specs.Words.{counted_visits, state_word}

-- ---- what a cancel takes along, by name

-- the address of that visit, where the log has it
abbrev pub address_of : List Visit → ℕ → List ℕ
address_of visits number = option_map_or (λ visit. visit.address) (kept_visit number visits) []

-- the cases that a cancel of that visit takes along
abbrev pub below_of : Book → ℕ → List Case
below_of book visit = filter (is_below_visit book.cases visit) book.cases

-- how many of so many there are behind the first hundred
abbrev pub more_along : List ℕ → ℕ → List ℕ
more_along client count = if nat_lt 100 count then along_more_html client (decimal (count - 100)) else []

module _ (client : List ℕ) (visits : List Visit) (book : Book) where
  -- one by its number, how it stands, and its address
  abbrev pub one_of : Case → List ℕ
  one_of case = along_one_html client (decimal case.visit) (state_word (standing_in book case))
      (address_of visits case.visit)

  abbrev pub one_at : ℕ → List ℕ
  one_at place = option_map_or one_of (slice_get book.cases place) []

  -- the first hundred of these, and how many more
  abbrev pub named : List Case → List ℕ
  named below = flat_map one_of (take 100 below) ++ more_along client (length below)

  abbrev pub along_part : List Case → List ℕ
  along_part below =
      if length below == 0 then along_none_html else along_html (counted_visits (length below)) (named below)

-- ---- the forms

-- the event that a conflict stands at; 0 for none
abbrev pub stops_at : Outcome → ℕ
stops_at (Conflict requests at kind) = at
stops_at other = 0

abbrev pub keeps_words : ℕ → List ℕ
keeps_words at = if at == 0 then codes "no request" else codes "its requests"

abbrev pub voids_words : ℕ → List ℕ
voids_words at = if at == 0 then codes "its load" else codes "those before its conflict"

abbrev pub with_words : ℕ → List ℕ
with_words count = if count == 0 then [] else codes ", and " ++ (counted_visits count ++ codes " with it")

abbrev pub is_waiting : Standing → Bool
is_waiting Waiting = true
is_waiting other = false

module _ (token client : List ℕ) (visits : List Visit) (book : Book) (visit : ℕ) (case : Case) where
  -- both, of that client and visit and with that token
  abbrev pub forms : List ℕ
  forms = let at = stops_at case.outcome in let below = below_of book visit in
      decide_html (keeps_words at) client (decimal visit) token (voids_words at) (with_words (length below))
      (along_part client visits book below)

  -- where that visit is the front the forms, else, if the visit waits, where the front is
  abbrev pub decide_by : ℕ → List ℕ
  decide_by front = if front == visit then forms else
      (if is_waiting (standing_in book case) then not_front_html (decimal front) client else [])

  -- by the client's front; where none waits, nothing
  abbrev pub decide_part : List ℕ
  decide_part = option_map_or decide_by (front_visit book) []
