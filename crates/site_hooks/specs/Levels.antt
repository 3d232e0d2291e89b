-- Which paths have which step at which level, and which end there.
use Rattle.std.specs.Prelude.{◌≡◌, ◌↔◌, ◌⊎◌, ℕ, suc, List, [], length, get_or, slice_get, option_map, Some, IsSomeAnd}
use Rattle.std.specs.BTreeMap.{get_by_text}
use Rattle.std.specs.List.{AllByRecursion}
use Rattle.xpath_child.specs.Path.{Step, IsStep, step_text}
use Rattle.site_hooks.specs.Sets.{IsIn}
use Rattle.site_hooks.specs.declared.levels.Level.{Level}

-- the path has a step of that text at the level
abbrev pub HasStep : List Step → ℕ → List ℕ → Type 0
HasStep path at text = option_map step_text (slice_get path at) ≡ Some text

-- the number is among those of the steps with that text
abbrev pub IsOfStep : Level → List ℕ → ℕ → Type 0
IsOfStep level text number = IsSomeAnd (get_by_text level.steps text) (λ set. IsIn set number)

-- among those of that level
abbrev pub IsOfStepAt : List Level → ℕ → List ℕ → ℕ → Type 0
IsOfStepAt levels at text number = IsSomeAnd (slice_get levels at) (λ level. IsOfStep level text number)

abbrev pub IsOfEndAt : List Level → ℕ → ℕ → Type 0
IsOfEndAt levels at number = IsSomeAnd (slice_get levels at) (λ level. IsIn level.ends number)

-- those of these paths, by their numbers
pub record AreLevels (levels : List Level) (paths : List (List Step)) : Type 0 where
  pub each : (number : ℕ) → AllByRecursion IsStep (get_or paths number [])
  pub steps : (at number : ℕ) (text : List ℕ) → IsOfStepAt levels at text number
      ↔ HasStep (get_or paths number []) at text
  pub ends : (at number : ℕ) → IsOfEndAt levels at number ↔ (length (get_or paths number []) ≡ suc at)

-- each step of this path has that number now too, and so has its end
pub record AddsNumber (path : List Step) (number : ℕ) (old new : List Level) : Type 0 where
  pub steps : (at other : ℕ) (text : List ℕ) → IsOfStepAt new at text other
      ↔ (IsOfStepAt old at text other ⊎ ((other ≡ number) × HasStep path at text))
  pub ends : (at other : ℕ) → IsOfEndAt new at other
      ↔ (IsOfEndAt old at other ⊎ ((other ≡ number) × (length path ≡ suc at)))
