-- What is known of the cases before the front.
use Rattle.std.specs.Prelude.{◌≡◌, ℕ, ◌<◌, ◌≤◌, List, Bool, true, false, Some, slice_get}
use Rattle.std.specs.List.{slice_index_or}
use Rattle.conflict_desk.specs.Docket.{is_conflict}
use Rattle.conflict_desk.specs.inside.Links.{Follows}
use Rattle.conflict_desk.specs.declared.docket.Case.{Case}
use Rattle.conflict_desk.specs.declared.links.Link.{Link}

-- `said k` is a statement of the case at place k, in the code that its visit is cancelled; the flags before that place
-- say it
abbrev pub Tell : (ℕ → Bool) → ℕ → List Bool → Type 0
Tell said to flags = (k : ℕ) → k < to → slice_index_or flags k false ≡ said k

-- the first conflict from there on of which it isn't said is at that place, or there is none and that place is the end
pub record IsSettled (said : ℕ → Bool) (cases : List Case) (from to : ℕ) (flags : List Bool) : Type 0 where
  pub tell : Tell said to flags
  pub passed : (k : ℕ) (case : Case) → from ≤ k → k < to → slice_get cases k ≡ Some case
      → is_conflict case.outcome ≡ true → said k ≡ true
  pub stops : (case : Case) → slice_get cases to ≡ Some case → (is_conflict case.outcome ≡ true) × (said to ≡ false)

-- so it goes on from the flags before to those after, whatever follows the links and is said by the flags before
abbrev pub Settles : List Case → List Link → List Bool → ℕ → ℕ → List Bool → Type 0
Settles cases links before from to after =
    (said : ℕ → Bool) → Follows from links said → Tell said from before → IsSettled said cases from to after
