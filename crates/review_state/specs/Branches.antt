-- A client's visits as a tree, by what the docket says of their parents: this project's own rule.
use Rattle.std.specs.Prelude.{◌≡◌, ℕ, List, length, Option, Some, None, slice_get, slice_index_or, option_and_then}
use Rattle.conflict_desk.specs.Docket.{parent_of}
use Rattle.conflict_desk.specs.declared.docket.Case.{Case}
use Rattle.visit_tree.specs.Tree.{tree_order, AreVisitLevels}
use Rattle.review_state.specs.declared.branches.Branches.{Branches}

-- by the place of each visit, that of its parent, where the docket has it
pub record AreOpeners (cases : List Case) (openers : List (Option ℕ)) : Type 0 where
  pub count : length openers ≡ length cases
  pub each : (place : ℕ) (case : Case) → slice_get cases place ≡ Some case
      → option_and_then (slice_get cases) (slice_index_or openers place None) ≡ parent_of cases case

-- the order in which they are shown, and how deep each stands
pub record IsBranched (cases : List Case) (branches : Branches) : Type 0 where
  pub openers : List (Option ℕ)
  pub are : AreOpeners cases openers
  pub order_is : branches.order.items ≡ tree_order openers
  pub levels_are : AreVisitLevels openers branches.levels.items
