-- A walk over a page for many paths.
use Rattle.std.specs.Prelude.{◌≡◌, ◌&&◌, ◌↔◌, ℕ, suc, List, [], ◌++◌, get_or, length, take, drop, slice_get, IsTrue, IsSomeAnd, Option, Some}
use Rattle.std.specs.Option.{option_map_or}
use Rattle.page_tree.specs.Tree.{Tree}
use Rattle.xpath_child.specs.Path.{Step}
use Rattle.xpath_child.specs.Reaches.{matches, is_nth, LeadsOn, Reaches}
use Rattle.site_hooks.specs.Findings.{found_by, IsNoted, Grows}
use Rattle.site_hooks.specs.Sets.{Has}
use Rattle.site_hooks.specs.declared.findings.Findings.{Findings}
use Rattle.site_hooks.specs.declared.walk.Walk.{Walk}

-- how many siblings count before a child, by a step's test: so many of its name, or so many elements
abbrev pub before_test : ℕ → ℕ → Option (List ℕ) → ℕ
before_test same elements test = option_map_or (λ _. same) test elements

-- the step selects such a child
abbrev pub IsPicked : List ℕ → ℕ → ℕ → Step → Type 0
IsPicked name same elements step =
    IsTrue (matches step.test (Some name) && is_nth step.index (before_test same elements step.test))

-- the path's step at that level does
abbrev pub PicksAt : List Step → ℕ → List ℕ → ℕ → ℕ → Type 0
PicksAt path level name same elements = IsSomeAnd (slice_get path level) (IsPicked name same elements)

-- the first steps of the path, one for each level down to the place, lead there
abbrev pub LeadsDownTo : Tree → List ℕ → List Step → Type 0
LeadsDownTo page at path = Reaches (take (suc (length at)) path) page at

-- the set has the numbers of the paths that lead there
abbrev pub AreAlive : Walk → List ℕ → List ℕ → Type 0
AreAlive walk at alive =
    (number : ℕ) → Has alive number ↔ LeadsDownTo walk.page.now at (get_or walk.paths.now number [])

-- of each path that is in the set and ends at that level, the place was noted
abbrev pub EndsFound : Walk → List ℕ → List ℕ → Findings → Type 0
EndsFound walk alive at found = (number : ℕ) → Has alive number
    → length (get_or walk.paths.now number []) ≡ suc (length at) → IsNoted walk.page.now (found_by found number) at

-- at and below a place, each was noted where a path of the set goes on
pub record FindsAll (walk : Walk) (alive at : List ℕ) (old new : Findings) : Type 0 where
  pub grows : Grows walk.page.now walk.paths.now old new
  pub every : (number : ℕ) (positions : List ℕ) → Has alive number
      → LeadsOn walk.page.now at (drop (suc (length at)) (get_or walk.paths.now number [])) positions
      → IsNoted walk.page.now (found_by new number) (at ++ positions)
