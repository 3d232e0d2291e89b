-- Which requests of a visit go elsewhere now, as the code keeps it of the numbers that are asked for while it goes
-- through the events.
use Rattle.std.specs.Prelude.{ℕ, ◌≡◌, ◌≢◌, ◌+◌, List, Bool, true, false, Option, Some, None, take, is_some}
use Rattle.std.specs.BTreeMap.{BTreeMap, get}
use Rattle.std.specs.Ordering.{nat_cmp}
use Rattle.client_log.specs.declared.visit.Visit.{Visit}
use Rattle.visit_replay.specs.Moved.{event_numbered, requests_of, is_moved}
use Rattle.visit_replay.specs.declared.moves.Asked.{Asked}
use Rattle.visit_replay.specs.declared.outcome.Outcome.{Outcome}
use Rattle.visit_replay.specs.declared.trail.Trail.{Trail}
use Rattle.visit_replay.specs.inside.Deeds.{requests_on}

-- a number of those that are asked for, with what was found of it
abbrev pub Numbers : Type 0
Numbers = BTreeMap ℕ (Option Bool)

-- it is asked for and wasn't found yet
abbrev pub is_pending : Option (Option Bool) → Bool
is_pending (Some None) = true
is_pending other = false

-- what was found of it
abbrev pub answer_in : Option (Option Bool) → Bool
answer_in (Some (Some answer)) = answer
answer_in other = false

-- what was found is so, and what wasn't yet is of none of the first k events
pub record IsMet (same : Option (List (List ℕ))) (visit : Visit) (outcome : Outcome) (k : ℕ) (numbers : Numbers)
    : Type 0 where
  pub found : (number : ℕ) (answer : Bool) → number ≢ 0 → get nat_cmp numbers number ≡ Some (Some answer)
      → answer ≡ is_moved same visit outcome number
  pub pending : (number : ℕ) → number ≢ 0 → get nat_cmp numbers number ≡ Some None
      → event_numbered (take k visit.events) number ≡ None

-- what was found is so, and once all were looked for, what wasn't found goes nowhere else
pub record IsRight (same : Option (List (List ℕ))) (visit : Visit) (outcome : Outcome) (asked : Asked) : Type 0 where
  pub found : (number : ℕ) (answer : Bool) → number ≢ 0 → get nat_cmp asked.numbers number ≡ Some (Some answer)
      → answer ≡ is_moved same visit outcome number
  pub missing : asked.looked ≡ true → (number : ℕ) → number ≢ 0 → get nat_cmp asked.numbers number ≡ Some None
      → is_moved same visit outcome number ≡ false

-- nothing was looked for yet
pub record IsFresh (asked : Asked) : Type 0 where
  pub unlooked : asked.looked ≡ false
  pub unfound : (number : ℕ) (answer : Option Bool) → get nat_cmp asked.numbers number ≡ Some answer → answer ≡ None

-- one event more was looked at, beside the requests of a trail of which these are the first places
pub record MeetsOne (names : Option (List (List ℕ))) (visit : Visit) (k : ℕ) (trail : Trail) (old new : Numbers)
    : Type 0 where
  pub met : (outcome : Outcome) → requests_of outcome ≡ requests_on trail.address trail.page trail.deeds.items
      → IsMet names visit outcome k old → IsMet names visit outcome (k + 1) new
  pub same : (number : ℕ) → is_some (get nat_cmp new number) ≡ is_some (get nat_cmp old number)
