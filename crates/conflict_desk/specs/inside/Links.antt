-- What is kept of each case's way up its chain of parents.
use Rattle.std.specs.Prelude.{◌≡◌, ℕ, ◌<◌, ◌≤◌, List, Bool, false, Some, IfSome, slice_get, option_and_then}
use Rattle.std.specs.Option.{option_map_or}
use Rattle.conflict_desk.specs.Docket.{parent_of}
use Rattle.conflict_desk.specs.declared.docket.Case.{Case}
use Rattle.conflict_desk.specs.declared.links.Link.{Link}

-- from that place on, what is said of a case is what is said of its parent, and false of one that has none
abbrev pub Follows : ℕ → List Link → (ℕ → Bool) → Type 0
Follows from links said =
    (k : ℕ) (link : Link) → from ≤ k → slice_get links k ≡ Some link → said k ≡ option_map_or said link.parent false

-- the chain of parents leads from one place to an earlier one: what is said so is the same of both
abbrev pub LeadsTo : List Link → ℕ → ℕ → Type 0
LeadsTo links k j = (j < k) × ((from : ℕ) (said : ℕ → Bool) → Follows from links said → from ≤ j → said k ≡ said j)

-- it leads to places before its own, and by the chain of parents
abbrev pub LeadsBack : List Link → ℕ → Link → Type 0
LeadsBack links k link = IfSome link.parent (λ p. p < k) × IfSome link.jump (LeadsTo links k)

abbrev pub AllLeadBack : List Link → Type 0
AllLeadBack links = (k : ℕ) (link : Link) → slice_get links k ≡ Some link → LeadsBack links k link

pub record IsLink (cases : List Case) (links : List Link) (k : ℕ) (link : Link) : Type 0 where
  pub case : Case
  pub at : slice_get cases k ≡ Some case
  pub parent : parent_of cases case ≡ option_and_then (slice_get cases) link.parent
  pub back : LeadsBack links k link

abbrev pub AreLinks : List Case → List Link → Type 0
AreLinks cases links = (k : ℕ) (link : Link) → slice_get links k ≡ Some link → IsLink cases links k link
