use Rattle.std.proofs.Common.{[], refl, sym, ap, ◌∙◌}
use Rattle.std.proofs.lemmas.Result.{err_from_is_err_and}
use Rattle.serde_json.specs.Data.{object, no_members}
use Rattle.json_document.specs.Standing.{data_of, members_behind, put_all}
use Rattle.page_tree.specs.Fault.{fault_of_value}
use Rattle.page_tree.proofs.Faults.{is_object_of, of_root}
use Rattle.page_tree.proofs.ReadingLaws.{root_read}
use Rattle.page_tree.proofs.walking.walk_root.Goals as goal

pub returns-in_err-walk_element-clause-fault : goal.returns-in_err-walk_element-clause-fault
returns-in_err-walk_element-clause-fault c =
    let ms = put_all (members_behind c.in-Some.members) no_members in
    let is = is_object_of (data_of c.args.place.now) ms (sym c.in-Some.ensures) in
    let p = err_from_is_err_and c.from_residual.result c.from_residual.ensures.1 in
    rw (p.1, p.2) (λ real. ap fault_of_value is ∙ of_root (object ms) refl ∙ (rw c.new-table.ensures at (c.in_err-walk_element.ensures.judged real [])))

pub returns-clause-page : goal.returns-clause-page
returns-clause-page c =
    let ms = put_all (members_behind c.in-Some.members) no_members in
    let is = is_object_of (data_of c.args.place.now) ms (sym c.in-Some.ensures) in
    rw is (root_read (object ms) c.new-table.result c.walk_element.new.table refl c.new-table.ensures
    c.in_ok-walk_element.ensures.judged c.in_ok-walk_element.ensures.added).0

pub returns-clause-free : goal.returns-clause-free
returns-clause-free c =
    let ms = put_all (members_behind c.in-Some.members) no_members in
    let is = is_object_of (data_of c.args.place.now) ms (sym c.in-Some.ensures) in
    rw is (root_read (object ms) c.new-table.result c.walk_element.new.table refl c.new-table.ensures
    c.in_ok-walk_element.ensures.judged c.in_ok-walk_element.ensures.added).1
