use Rattle.std.proofs.Common.{◌≡◌, ◌++◌, List, Option, drop}
use Rattle.page_tree.specs.Seen.{plain_trees}
use Rattle.page_tree.specs.Fault.{first_fault, all_faults, value_faults, data_of_all}
use Rattle.page_tree.specs.declared.fault.PageFault.{PageFault}
use Rattle.page_tree.proofs.inspection.+inspection.Given as goal

abbrev pub invariant-inspect_nodes-loop-tree : goal.invariant-inspect_nodes-loop-tree
invariant-inspect_nodes-loop-tree l = (later : List (Option PageFault))
    → first_fault l.count (all_faults (value_faults l.levels) (data_of_all (plain_trees (drop l.tree-index l.trees))) ++ later)
    ≡ first_fault l.before (all_faults (value_faults l.levels) (data_of_all (plain_trees l.trees)) ++ later)
