use Rattle.std.proofs.Common.{◌∙◌}
use Rattle.page_tree.specs.Seen.{plain_tree}
use Rattle.page_tree.proofs.KeptLaws.{kept, kept_tree}
use Rattle.page_tree.proofs.ValueLaws.{page_without_fault, no_fault_of_page}
use Rattle.page_tree.proofs.page.Page.new.Goals as goal

pub returns-in-Err-clause-refused : goal.returns-in-Err-clause-refused
returns-in-Err-clause-refused c = λ real page.
    let none = no_fault_of_page (plain_tree c.args.root) page in
    let some = c.in-Err.ensures.fault real in
    cc

pub table_of-requires : goal.table_of-requires
table_of-requires c = (page_without_fault (plain_tree c.args.root) c.in-Ok.ensures.free).many

pub holding-requires : goal.holding-requires
holding-requires c = kept c.in_ok-table-in-Ok.table (plain_tree c.args.root) c.in_ok-table-in-Ok.ensures (page_without_fault (plain_tree c.args.root) c.in-Ok.ensures.free)

pub returns-in_ok-holding-in-Ok-clause-page : goal.returns-in_ok-holding-in-Ok-clause-page
returns-in_ok-holding-in-Ok-clause-page c = c.in_ok-holding-in-Ok.ensures ∙ kept_tree c.in_ok-table-in-Ok.table (plain_tree c.args.root) c.in_ok-table-in-Ok.ensures

pub returns-in_ok-holding-in-Ok-clause-ok : goal.returns-in_ok-holding-in-Ok-clause-ok
returns-in_ok-holding-in-Ok-clause-ok c =
    rw (c.in_ok-holding-in-Ok.ensures, kept_tree c.in_ok-table-in-Ok.table (plain_tree c.args.root) c.in_ok-table-in-Ok.ensures)
    (page_without_fault (plain_tree c.args.root) c.in-Ok.ensures.free, c.in-Ok.ensures.free)
