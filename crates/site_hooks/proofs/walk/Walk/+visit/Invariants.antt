use Rattle.std.proofs.Common.{◌≡◌, ◌-◌, ◌+◌, ◌<◌, ◌++◌, ◌∷◌, [], length}
use Rattle.page_tree.specs.Limits.{nodes}
use Rattle.page_tree.specs.Look.{child_count_at}
use Rattle.page_tree.specs.Number.{place_numbered}
use Rattle.site_hooks.specs.Findings.{Grows}
use Rattle.site_hooks.specs.Walk.{EndsFound}
use Rattle.site_hooks.specs.Siblings.{AreBefore}
use Rattle.site_hooks.proofs.WalkLaws.{FindsThrough}
use Rattle.site_hooks.proofs.walk.Walk.+visit.Given as goal

abbrev pub decreases-visit : goal.decreases-visit
decreases-visit l = nodes l.self.now.page.now - l.at

abbrev pub invariant-loop-i : goal.invariant-loop-i
invariant-loop-i l =
    let page = l.self.page.now in
    let at = place_numbered l.at page in
    record {
      child : l.i < child_count_at at page → place_numbered l.child page ≡ at ++ l.i ∷ [];
      after : l.at + l.i < l.child;
      before : AreBefore page at l.i l.siblings;
      len : length l.below.items ≡ length l.alive;
      found : length l.found.found.items ≡ length l.self.paths.now;
      grows : Grows page l.self.paths.now l.fn.found l.found;
      ends : EndsFound l.self l.alive at l.found;
      through : FindsThrough l.self l.alive at l.i l.found;
    }
