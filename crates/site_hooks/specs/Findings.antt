-- What paths find on a page, by the paths' numbers.
use Rattle.std.specs.Prelude.{◌≡◌, ◌<◌, ◌==◌, ⊤, ℕ, List, [], Bool, not, if◌then◌else◌, get_or, option_map}
use Rattle.std.specs.Option.{option_eq}
use Rattle.std.specs.Str.{bytes_eq}
use Rattle.page_tree.specs.Tree.{Tree}
use Rattle.page_tree.specs.Limits.{nodes}
use Rattle.page_tree.specs.Look.{text_at}
use Rattle.page_tree.specs.Number.{place_numbered}
use Rattle.xpath_child.specs.Path.{Step}
use Rattle.xpath_child.specs.Reaches.{Reaches, IsTarget}
use Rattle.xpath_child.specs.Targets.{target_in, place_found, only_place}
use Rattle.xpath_child.specs.declared.path.Found.{Found}
use Rattle.xpath_child.specs.declared.path.Found.TheVariants as found
use Rattle.xpath_child.specs.declared.path.Target.TheVariants.{Several}
use Rattle.site_hooks.specs.declared.findings.Findings.{Findings}

-- what the path of that number found
abbrev pub found_by : Findings → ℕ → Found
found_by findings number = get_or findings.found.items number found.Missing

-- what each path finds; nothing, past the last one
abbrev pub AreFound : Tree → List (List Step) → Findings → Type 0
AreFound page paths findings =
    (number : ℕ) → place_found page (found_by findings number) ≡ target_in (get_or paths number []) page

-- ---- noted node by node

-- one node more, unless it was noted before
abbrev pub noted : ℕ → Found → Found
noted at found.Missing = found.One at
noted at (found.One number) = if number == at then found.One number else found.Several
noted at found.Several = found.Several

-- the path reaches what was noted of it
abbrev pub IsReached : Tree → List Step → Found → Type 0
IsReached page path found.Missing = ⊤
IsReached page path (found.One number) = (number < nodes page) × Reaches path page (place_numbered number page)
IsReached page path found.Several = IsTarget path page Several

-- the place is among what was noted
abbrev pub IsNoted : Tree → Found → List ℕ → Type 0
IsNoted page found.Missing place = ⊥
IsNoted page (found.One number) place = place_numbered number page ≡ place
IsNoted page found.Several place = ⊤

-- more was noted, and what was noted stays right
pub record Grows (page : Tree) (paths : List (List Step)) (old new : Findings) : Type 0 where
  pub kept : (number : ℕ) (place : List ℕ) → IsNoted page (found_by old number) place
      → IsNoted page (found_by new number) place
  pub right : ((number : ℕ) → IsReached page (get_or paths number []) (found_by old number))
      → (number : ℕ) → IsReached page (get_or paths number []) (found_by new number)

-- ---- texts

-- the texts at what was found on each of two pages are not the same
abbrev pub found_differ : Tree → Found → Tree → Found → Bool
found_differ old before new after = not (option_eq bytes_eq
    (option_map (λ place. text_at place old) (only_place (place_found old before)))
    (option_map (λ place. text_at place new) (only_place (place_found new after))))

abbrev pub differ_by : Tree → Findings → Tree → Findings → ℕ → Bool
differ_by old before new after number = found_differ old (found_by before number) new (found_by after number)
