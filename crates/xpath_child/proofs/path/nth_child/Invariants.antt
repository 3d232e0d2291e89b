use Rattle.std.proofs.Common.{◌≡◌, ◌≤◌, ◌<◌, Some, [], ◌∷◌, ◌++◌}
use Rattle.page_tree.specs.Look.{child_count_at}
use Rattle.page_tree.specs.Number.{place_numbered}
use Rattle.xpath_child.specs.Reaches.{matching_before}
use Rattle.xpath_child.specs.Targets.{selected_positions}
use Rattle.xpath_child.specs.Fault.{test_in}
use Rattle.xpath_child.specs.inside.Search.{step_for}
use Rattle.xpath_child.proofs.path.nth_child.Given as goal

abbrev pub invariant-loop-i : goal.invariant-loop-i
invariant-loop-i l =
    let page = l.page in
    let at = place_numbered l.at page in
    record {
      few : l.count ≤ l.i;
      count : l.count ≡ matching_before page (test_in l.test) at l.i;
      child : l.i < child_count_at at page → place_numbered l.sibling page ≡ at ++ l.i ∷ [];
      none : selected_positions page (step_for l.test (Some l.nth)) at l.i ≡ [];
    }
