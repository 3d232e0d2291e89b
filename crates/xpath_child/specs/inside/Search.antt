-- The search for a target in the code: the steps that are left in the text, and what it has found so far.
use Rattle.std.specs.Prelude.{◌≡◌, ℕ, ◌+◌, List, [], ◌++◌, ◌==◌, Option, None, option_map, map, drop, fold}
use Rattle.std.specs.List.{before_first, position}
use Rattle.std.specs.Option.{option_map_or, IfSome}
use Rattle.page_tree.specs.Tree.{Tree}
use Rattle.page_tree.specs.Number.{place_numbered}
use Rattle.xpath_child.specs.Path.{Step}
use Rattle.xpath_child.specs.Fault.{test_in, first_step_fault, written_steps, step_in}
use Rattle.xpath_child.specs.Targets.{places_below, place_found}
use Rattle.xpath_child.specs.declared.cutting.CutStep.{CutStep}
use Rattle.xpath_child.specs.declared.step.Tail.{Tail}
use Rattle.xpath_child.specs.declared.path.Found.{Found}
use Rattle.xpath_child.specs.declared.path.Target.{Target}
use Rattle.xpath_child.specs.declared.path.Target.TheVariants.{Missing, One, Several}

-- the steps of what is left behind a `/`, if there is any more
abbrev pub steps_in : Option (List ℕ) → List Step
steps_in left = option_map_or (λ text. map step_in (written_steps text)) left []

-- none of them has a fault
abbrev pub AreSteps : Option (List ℕ) → Type 0
AreSteps left =
    IfSome left (λ text. (before : ℕ) × (start : ℕ) × (first_step_fault before start (written_steps text) ≡ None))

-- the first of the steps in a text, and what is left behind it
abbrev pub first_in : List ℕ → List ℕ
first_in text = before_first (λ c. c == 47) text

abbrev pub left_in : List ℕ → Option (List ℕ)
left_in text = option_map (λ i. drop (i + 1) text) (position (λ c. c == 47) text)

-- this stands in a text behind the test of its first step
pub record IsTail (text : List ℕ) (tail : Tail) : Type 0 where
  pub index : tail.index ≡ (step_in (first_in text)).index
  pub rest : option_map (λ rest. rest.now) tail.rest ≡ left_in text

-- the step with that test and index, as they stand in a text
abbrev pub step_for : List ℕ → Option ℕ → Step
step_for test index = record { test = test_in test; index = index }

-- the steps that are cut out, and those that are left
abbrev pub step_of : CutStep → Step
step_of cut = step_for cut.test.now cut.index

abbrev pub steps_left : List CutStep → Option (List ℕ) → List Step
steps_left cut left = map step_of cut ++ steps_in left

-- a target and one place more
abbrev pub note : Target → List ℕ → Target
note Missing place = One place
note other place = Several

-- these places were noted, one after another
abbrev pub Notes : Tree → Found → Found → List (List ℕ) → Type 0
Notes page old new more = place_found page new ≡ fold note (place_found page old) more

-- the places that these steps reach from a node
abbrev pub hits : Tree → List Step → ℕ → List (List ℕ)
hits page steps number = places_below page steps (place_numbered number page)
