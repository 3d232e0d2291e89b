-- What is looked for stands in a text: this project's own rule.
use Rattle.std.specs.Prelude.{◌≡◌, ◌↔◌, ℕ, ◌<◌, List, [], ◌++◌, length, Bool, false, IsTrue, bytes_eq, slice_index_or}
use Rattle.visit_replay.specs.Conflict.{conflict_code}
use Rattle.visit_replay.specs.declared.outcome.Outcome.{Outcome}
use Rattle.visit_replay.specs.declared.outcome.Outcome.TheVariants.{Conflict}

abbrev pub IsFoundIn : List ℕ → List ℕ → Type 0
IsFoundIn part text = (front rest : List ℕ) × (text ≡ front ++ (part ++ rest))

-- just those of the texts are marked that have the part
pub record AreMarkedFound (part : List ℕ) (texts : List (List ℕ)) (marks : List Bool) : Type 0 where
  pub count : length marks ≡ length texts
  pub each : (k : ℕ) → k < length texts
      → IsTrue (slice_index_or marks k false) ↔ IsFoundIn part (slice_index_or texts k [])

-- it is a conflict of that code
abbrev pub has_code : List ℕ → Outcome → Bool
has_code code (Conflict requests at kind) = bytes_eq (conflict_code kind) code
has_code code other = false
