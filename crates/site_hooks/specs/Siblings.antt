-- The siblings before a child, as they are counted.
use Rattle.std.specs.Prelude.{◌≡◌, ℕ, List, Option, Some, None, unwrap_or}
use Rattle.std.specs.BTreeMap.{get_by}
use Rattle.std.specs.Cmp.Lexicographic.{slice_cmp}
use Rattle.std.specs.Ordering.{nat_cmp}
use Rattle.page_tree.specs.Tree.{Tree}
use Rattle.xpath_child.specs.Reaches.{matching_before}
use Rattle.site_hooks.specs.declared.siblings.Siblings.{Siblings}

abbrev pub count_named : Siblings → List ℕ → ℕ
count_named siblings name = unwrap_or (get_by (λ own. slice_cmp nat_cmp name own.now) siblings.named) 0

-- how many there count, by a test of a step
abbrev pub counted : Siblings → Option (List ℕ) → ℕ
counted siblings None = siblings.elements
counted siblings (Some name) = count_named siblings name

-- those before the i-th child of a node
abbrev pub AreBefore : Tree → List ℕ → ℕ → Siblings → Type 0
AreBefore page at i siblings = (test : Option (List ℕ)) → counted siblings test ≡ matching_before page test at i
