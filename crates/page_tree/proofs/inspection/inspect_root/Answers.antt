use Rattle.std.proofs.Common.{ap, ◌∙◌}
use Rattle.page_tree.specs.Limits.{is_element}
use Rattle.page_tree.specs.Seen.{plain_tree}
use Rattle.page_tree.proofs.BuildingLaws.{seen-Element}
use Rattle.page_tree.proofs.ValueLaws.{judged_root}
use Rattle.page_tree.proofs.inspection.inspect_root.Goals as goal

pub returns-in-Element-clause-free : goal.returns-in-Element-clause-free
returns-in-Element-clause-free c =
    let is = ap plain_tree c.in-Element.is ∙ seen-Element c.in-Element.name c.in-Element.attributes c.in-Element.children in
    (judged_root (plain_tree c.args.root.now) c.inspect_node.result (ap is_element is) c.inspect_node.ensures).0

pub returns-in-Element-clause-fault : goal.returns-in-Element-clause-fault
returns-in-Element-clause-fault c =
    let is = ap plain_tree c.in-Element.is ∙ seen-Element c.in-Element.name c.in-Element.attributes c.in-Element.children in
    (judged_root (plain_tree c.args.root.now) c.inspect_node.result (ap is_element is) c.inspect_node.ensures).1
