-- The places that a path reaches, as a list in document order, and its target as a function of path and page.
use Rattle.std.specs.Prelude.{ℕ, List, [], ◌∷◌, ◌++◌, ◌&&◌, if◌then◌else◌, Option, Some, None, flat_map, filter}
use Rattle.std.specs.List.{range_with_len}
use Rattle.page_tree.specs.Tree.{Tree}
use Rattle.page_tree.specs.Look.{name_at, child_count_at}
use Rattle.xpath_child.specs.Path.{Step}
use Rattle.xpath_child.specs.Reaches.{matches, is_nth, selects}
use Rattle.page_tree.specs.Number.{place_numbered}
use Rattle.xpath_child.specs.declared.path.Found.{Found}
use Rattle.xpath_child.specs.declared.path.Found.TheVariants as found
use Rattle.xpath_child.specs.declared.path.Target.{Target}
use Rattle.xpath_child.specs.declared.path.Target.TheVariants.{Missing, One, Several}

-- the positions that the step selects among the first so many children
abbrev pub selected_positions : Tree → Step → List ℕ → ℕ → List ℕ
selected_positions page step at n = filter (selects page step at) (range_with_len 0 n)

-- the places that the steps reach from a place
abbrev pub places_below : Tree → List Step → List ℕ → List (List ℕ)
places_below page [] at = at ∷ []
places_below page (step ∷ steps) at =
    flat_map (λ i. places_below page steps (at ++ i ∷ [])) (selected_positions page step at (child_count_at at page))

abbrev pub places : List Step → Tree → List (List ℕ)
places [] page = []
places (step ∷ steps) page =
    if matches step.test (name_at [] page) && is_nth step.index 0 then places_below page steps [] else []

-- none, the only one, or several
abbrev pub target_of : List (List ℕ) → Target
target_of [] = Missing
target_of (place ∷ []) = One place
target_of (a ∷ b ∷ rest) = Several

abbrev pub target_in : List Step → Tree → Target
target_in path page = target_of (places path page)

-- the place of a target that is one place
abbrev pub only_place : Target → Option (List ℕ)
only_place (One place) = Some place
only_place other = None

-- the target that a node's number stands for
abbrev pub place_found : Tree → Found → Target
place_found page found.Missing = Missing
place_found page (found.One number) = One (place_numbered number page)
place_found page found.Several = Several
