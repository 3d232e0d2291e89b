-- A client's docket: what became of its visits, in the order of their numbers.
use Rattle.std.specs.Prelude.{ℕ, List, Bool, true, false, ◌&&◌, ◌==◌, if◌then◌else◌, nat_lt, map, Option, None}
use Rattle.std.specs.List.{find}
use Rattle.std.specs.List.Sorted.{IsStrictlyIncreasing}
use Rattle.visit_replay.specs.declared.outcome.Outcome.{Outcome}
use Rattle.visit_replay.specs.declared.outcome.Outcome.TheVariants.{Conflict}
use Rattle.conflict_desk.specs.declared.docket.Case.{Case}

-- each visit's number is below the next one's
abbrev pub AreAscending : List Case → Type 0
AreAscending cases = IsStrictlyIncreasing (map (λ case. case.visit) cases)

-- the case of the visit of that number, where the docket has it
abbrev pub case_of_visit : List Case → ℕ → Option Case
case_of_visit cases visit = find (λ case. case.visit == visit) cases

-- The visit that opened a visit: that of the number `parent`, where this isn't 0 and is below its own number. So it
-- stands before it in the docket.
abbrev pub parent_of : List Case → Case → Option Case
parent_of cases case =
    if nat_lt 0 case.parent && nat_lt case.parent case.visit then case_of_visit cases case.parent else None

abbrev pub is_conflict : Outcome → Bool
is_conflict (Conflict requests at kind) = true
is_conflict _ = false
