-- What clauses see of a Table, and its law: this project's own rule.
use Rattle.std.specs.Prelude.{◌≡◌, ℕ, List, Bool, not, if◌then◌else◌, Option, Some, option_map}
use Rattle.std.specs.List.{list_any}
use Rattle.std.specs.Option.{option_eq}
use Rattle.std.specs.BTreeMap.{get_by_text}
use Rattle.std.specs.Str.{bytes_eq}
use Rattle.page_tree.specs.Tree.{Tree}
use Rattle.page_tree.specs.Look.{text_at}
use Rattle.xpath_child.specs.Path.{Step}
use Rattle.xpath_child.specs.Targets.{target_in, only_place}
use Rattle.site_hooks.specs.declared.table.Table.{Table}

-- the page that stands at the whole address
abbrev pub table_page : Table → List ℕ → Option Tree
table_page table address = option_map (λ site_page. site_page.page) (get_by_text table.pages address)

-- that page was added at the address, and all others stand as before
abbrev pub AddsPage : Table → List ℕ → Tree → Table → Type 0
AddsPage old address page new =
    (other : List ℕ) → table_page new other ≡ (if bytes_eq address other then Some page else table_page old other)

-- the paths that are watched, in the order in which they came
abbrev pub watched_in : Table → List (List Step)
watched_in table = table.watched.items

-- the texts under the only place; none where a path selects no place, or several
abbrev pub watched_text : Tree → List Step → Option (List ℕ)
watched_text page path = option_map (λ place. text_at place page) (only_place (target_in path page))

-- whether it has another text on one page than on the other; none is the same as none, and another than every text, the
-- empty one too
abbrev pub is_changed : Tree → Tree → List Step → Bool
is_changed old new path = not (option_eq bytes_eq (watched_text old path) (watched_text new path))

-- some watched path has another text on the old page than on the new (K9 of a replay)
abbrev pub signals_in : Table → Tree → Tree → Bool
signals_in table old new = list_any (is_changed old new) (watched_in table)
