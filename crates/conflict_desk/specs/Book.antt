-- What stands of a docket after the decisions that were made on it: this project's own rule.
use Rattle.std.specs.Prelude.{ℕ, zero, suc, List, [], ◌∷◌, ◌++◌, Bool, true, false, not, ◌&&◌, ◌==◌, if◌then◌else◌, Option, option_map}
use Rattle.std.specs.List.{find, list_any}
use Rattle.std.specs.Option.{option_map_or}
use Rattle.visit_replay.specs.Moved.{requests_of}
use Rattle.visit_replay.specs.declared.outcome.Outcome.{Outcome}
use Rattle.visit_replay.specs.declared.outcome.Outcome.TheVariants as outcome
use Rattle.visit_replay.specs.declared.requests.Request.{Request}
use Rattle.conflict_desk.specs.Docket.{case_of_visit, parent_of, is_conflict}
use Rattle.conflict_desk.specs.declared.docket.Case.{Case}
use Rattle.conflict_desk.specs.declared.decided.Choice.{Choice}
use Rattle.conflict_desk.specs.declared.decided.Choice.TheVariants.{Cancel, Keep}
use Rattle.conflict_desk.specs.declared.decided.Decided.{Decided}
use Rattle.conflict_desk.specs.declared.decided.Standing.{Standing}
use Rattle.conflict_desk.specs.declared.decided.Standing.TheVariants as standing

-- a docket's cases as they were opened, and the decisions that were made on it, in their order
pub record Book : Type 0 where
  pub cases : List Case
  pub decisions : List Decided

-- with nothing decided yet
abbrev pub new_book : List Case → Book
new_book cases = record { cases = cases; decisions = [] }

-- ---- what was decided

abbrev pub is_cancel : Choice → Bool
is_cancel Cancel = true
is_cancel Keep = false

abbrev pub is_decided : List Decided → ℕ → Bool
is_decided decisions visit = list_any (λ decided. decided.visit == visit) decisions

-- a decision cancelled that visit itself
abbrev pub was_cancelled : List Decided → ℕ → Bool
was_cancelled decisions visit = list_any (λ decided. decided.visit == visit && is_cancel decided.choice) decisions

-- ---- what goes with a cancelled visit

-- a visit, its parent, the parent of that and so on, at most so many
abbrev pub chain : List Case → ℕ → Case → List Case
chain cases zero case = []
chain cases (suc n) case = case ∷ option_map_or (chain cases n) (parent_of cases case) []

-- It, or a visit on its chain of parents, was cancelled by a decision. Numbers fall along the chain, so none is longer.
unfoldable pub is_cancelled : Book → Case → Bool
is_cancelled book case =
    list_any (λ above. was_cancelled book.decisions above.visit) (chain book.cases (suc case.visit) case)

-- ---- what waits

-- a conflict that is neither decided nor below a cancelled visit
abbrev pub waits : Book → Case → Bool
waits book case = is_conflict case.outcome && not (is_decided book.decisions case.visit) && not (is_cancelled book case)

-- the least visit that waits
abbrev pub front_visit : Book → Option ℕ
front_visit book = option_map (λ case. case.visit) (find (waits book) book.cases)

abbrev pub with_decision : ℕ → Choice → Book → Book
with_decision visit choice book =
    record book { decisions = book.decisions ++ record { visit = visit; choice = choice } ∷ [] }

-- ---- how a visit stands

abbrev pub standing_by : Outcome → Bool → Standing
standing_by outcome.Untouched decided = standing.Untouched
standing_by (outcome.Done requests) decided = standing.Done
standing_by (outcome.Conflict requests at kind) decided = if decided then standing.Kept else standing.Waiting

abbrev pub standing_in : Book → Case → Standing
standing_in book case =
    if is_cancelled book case then standing.Cancelled
    else standing_by case.outcome (is_decided book.decisions case.visit)

-- those of its outcome, and none of a cancelled visit
abbrev pub standing_requests : Book → Case → List Request
standing_requests book case = if is_cancelled book case then [] else requests_of case.outcome

-- what is said of the case of that visit, where the docket has it
abbrev pub at_visit : {T : Type 0} → (Book → Case → T) → Book → ℕ → Option T
at_visit f book visit = option_map (f book) (case_of_visit book.cases visit)
