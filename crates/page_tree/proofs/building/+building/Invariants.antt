use Rattle.std.proofs.Common.{drop}
use Rattle.page_tree.specs.Seen.{plain_trees}
use Rattle.page_tree.proofs.BuildingLaws.{Adding}
use Rattle.page_tree.proofs.building.+building.Given as goal

abbrev pub invariant-add_children-loop-child : goal.invariant-add_children-loop-child
invariant-add_children-loop-child l = Adding l.initial.table l.table l.parent l.position (plain_trees l.children) (plain_trees (drop l.child-index l.children))
