use Rattle.std.proofs.Common.{rules, [], IsSome, ◌∙◌}
use Rattle.std.proofs.lemmas.Result.{err_from_is_err_and}
use Rattle.serde_json.specs.Find.{as_object}
use Rattle.serde_json.specs.View.{view}
use Rattle.page_tree.proofs.Faults.{of_root}
use Rattle.page_tree.proofs.ReadingLaws.{root_read}
use Rattle.page_tree.proofs.reading.read_root.Goals as goal

pub returns-in_err-read_node-clause-fault : goal.returns-in_err-read_node-clause-fault
returns-in_err-read_node-clause-fault c =
    let p = err_from_is_err_and c.from_residual.result c.from_residual.ensures.1 in
    let there : IsSome (as_object (view c.args.value.now)) = search rules in
    rw (p.1, p.2) (λ real. of_root (view c.args.value.now) there ∙ (rw c.new-table.ensures at (c.in_err-read_node.ensures.judged real [])))

pub returns-clause-page : goal.returns-clause-page
returns-clause-page c =
    let there : IsSome (as_object (view c.args.value.now)) = search rules in
    (root_read (view c.args.value.now) c.new-table.result c.read_node.new.table there c.new-table.ensures
    c.in_ok-read_node.ensures.judged c.in_ok-read_node.ensures.added).0

pub returns-clause-free : goal.returns-clause-free
returns-clause-free c =
    let there : IsSome (as_object (view c.args.value.now)) = search rules in
    (root_read (view c.args.value.now) c.new-table.result c.read_node.new.table there c.new-table.ensures
    c.in_ok-read_node.ensures.judged c.in_ok-read_node.ensures.added).1
