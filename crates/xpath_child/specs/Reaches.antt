-- Which places of a page a path reaches, and its target (XPath 1.0, sections 2 to 2.4). A page is known here by its
-- public words alone: the name of the element at a place, and how many children stand there.
use Rattle.std.specs.Prelude.{◌≡◌, ◌≢◌, ℕ, suc, List, [], ◌∷◌, ◌++◌, Bool, true, false, ◌&&◌, ◌==◌, IsTrue, Option, count_by}
use Rattle.std.specs.Option.{option_map_or}
use Rattle.std.specs.List.{range_with_len}
use Rattle.std.specs.Str.{bytes_eq}
use Rattle.page_tree.specs.Tree.{Tree}
use Rattle.page_tree.specs.Look.{name_at}
use Rattle.xpath_child.specs.Path.{Step}
use Rattle.xpath_child.specs.declared.path.Target.{Target}
use Rattle.xpath_child.specs.declared.path.Target.TheVariants.{Missing, One, Several}

-- ---- one step

-- section 2.3: the principal node type of the child axis is element, and names are compared exactly. A text, or a place
-- with no node, has no name.
abbrev pub matches : Option (List ℕ) → Option (List ℕ) → Bool
matches test name = option_map_or (λ found. option_map_or (λ wanted. bytes_eq wanted found) test true) name false

-- how many children match that stand before the one at that position
abbrev pub matching_before : Tree → Option (List ℕ) → List ℕ → ℕ → ℕ
matching_before page test at i = count_by (λ k. matches test (name_at (at ++ k ∷ []) page)) (range_with_len 0 i)

-- section 2.4: `[n]` keeps the n-th, in document order, of those that match under one parent
abbrev pub is_nth : Option ℕ → ℕ → Bool
is_nth index before = option_map_or (λ n. n == suc before) index true

-- the step selects the child at that position
abbrev pub selects : Tree → Step → List ℕ → ℕ → Bool
selects page step at i =
    matches step.test (name_at (at ++ i ∷ []) page) && is_nth step.index (matching_before page step.test at i)

-- ---- a path

-- from the node at a place, the steps lead on by these child positions, one for each step
abbrev pub LeadsOn : Tree → List ℕ → List Step → List ℕ → Type 0
LeadsOn page at [] positions = positions ≡ []
LeadsOn page at (step ∷ steps) [] = ⊥
LeadsOn page at (step ∷ steps) (i ∷ rest) = IsTrue (selects page step at i) × LeadsOn page (at ++ i ∷ []) steps rest

-- The first step selects from the document, whose only child element is the root (section 2 and section 5.1).
abbrev pub Reaches : List Step → Tree → List ℕ → Type 0
Reaches [] page place = ⊥
Reaches (step ∷ steps) page place =
    IsTrue (matches step.test (name_at [] page) && is_nth step.index 0) × LeadsOn page [] steps place

-- this project's own word for what a path selects: no place, the only one, or several
abbrev pub IsTarget : List Step → Tree → Target → Type 0
IsTarget path page Missing = (place : List ℕ) → Reaches path page place → ⊥
IsTarget path page (One place) = Reaches path page place × ((other : List ℕ) → Reaches path page other → other ≡ place)
IsTarget path page Several = (a : List ℕ) × (b : List ℕ) × (a ≢ b) × Reaches path page a × Reaches path page b
