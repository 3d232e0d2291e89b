use Rattle.std.proofs.Common.{◌≡◌, ◌<◌, ℕ, [], length, get_or}
use Rattle.xpath_child.specs.Targets.{place_found, target_in}
use Rattle.xpath_child.specs.declared.path.Found.TheVariants.{Missing}
use Rattle.site_hooks.proofs.noting.find_one_by_one.Given as goal

abbrev pub invariant-loop-path : goal.invariant-loop-path
invariant-loop-path l = record {
  len : length l.found.items ≡ l.path-index;
  done : (j : ℕ) → j < l.path-index → place_found l.page (get_or l.found.items j Missing) ≡ target_in (get_or l.paths j []) l.page;
}
