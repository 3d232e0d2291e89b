-- What is kept of the paths that are watched, beside them.
use Rattle.std.specs.Prelude.{◌≡◌, ◌<◌, ◌≤◌, ◌⊎◌, ℕ, List, [], ◌∷◌, ◌++◌, Bool, length, take, get_or, Some}
use Rattle.std.specs.BTreeMap.{BTreeMap, get_by_text}
use Rattle.std.specs.List.{list_any, Contains}
use Rattle.std.specs.Option.{ForSome}
use Rattle.std.specs.declared.string.String.{String}
use Rattle.xpath_child.specs.Path.{Step, path_text}
use Rattle.site_hooks.specs.Findings.{AreFound}
use Rattle.site_hooks.specs.declared.site_page.SitePage.{SitePage}

-- some path of one list passes where some path of the other does
abbrev pub HaveTheSame : List (List Step) → List (List Step) → Type 0
HaveTheSame paths others = (test : List Step → Bool) → list_any test paths ≡ list_any test others

-- each has its number by its text
abbrev pub HaveNumbers : {Y : Type 0} → BTreeMap (String Y) ℕ → List (List Step) → Type 0
HaveNumbers numbers paths = (number : ℕ) → number < length paths
    → get_by_text numbers (path_text (get_or paths number [])) ≡ Some number

-- the list has the path now, if it hadn't before
abbrev pub AddsPath : List (List Step) → List Step → List (List Step) → Type 0
AddsPath old path new = (new ≡ old ++ path ∷ []) ⊎ ((new ≡ old) × Contains old path)

-- what was found on it, where it is kept, is what the first so many of these paths find, as many as were watched then
abbrev pub IsOfFirst : List (List Step) → SitePage → Type 0
IsOfFirst paths site_page = (site_page.watched ≤ length paths)
    × ForSome site_page.found (λ found. AreFound site_page.page (take site_page.watched paths) found)
