use Rattle.std.proofs.lemmas.Result.{err_from_is_err_and}
use Rattle.json_document.specs.Standing.{data_of}
use Rattle.page_tree.proofs.KeptLaws.{kept, kept_tree}
use Rattle.page_tree.proofs.Once.{page_once, page_given, page_found, page_missed, fails_unless}
use Rattle.page_tree.proofs.page.Page.from_place.Goals as goal

pub returns-in_err-table-clause-refused : goal.returns-in_err-table-clause-refused
returns-in_err-table-clause-refused c =
    let p = err_from_is_err_and c.from_residual.result c.from_residual.ensures.1 in
    rw (p.1, p.2) (λ real. (page_missed (data_of c.args.place.now) c.in_err-table.field-0.0 (c.in_err-table.ensures.fault real)).2)

pub returns-in_err-table-clause-found : goal.returns-in_err-table-clause-found
returns-in_err-table-clause-found c =
    let p = err_from_is_err_and c.from_residual.result c.from_residual.ensures.1 in
    rw (p.1, p.2) (λ real. (page_missed (data_of c.args.place.now) c.in_err-table.field-0.0 (c.in_err-table.ensures.fault real)).0)

pub returns-in_err-table-clause-exact : goal.returns-in_err-table-clause-exact
returns-in_err-table-clause-exact c =
    let p = err_from_is_err_and c.from_residual.result c.from_residual.ensures.1 in
    rw (p.1, p.2) (fails_unless _ _ (λ real. (page_missed (data_of c.args.place.now) c.in_err-table.field-0.0 (c.in_err-table.ensures.fault real)).1))

pub holding-requires : goal.holding-requires
holding-requires c =
    let (t, page, lines) = c.in_ok-table.ensures.page in
    kept c.in_ok-table.table t lines page.page

pub returns-clause-ok : goal.returns-clause-ok
returns-clause-ok c =
    let (t, page, lines) = c.in_ok-table.ensures.page in
    rw (c.in_ok-holding.ensures, kept_tree c.in_ok-table.table t lines) (page, c.in_ok-table.ensures.free)

pub returns-clause-only : goal.returns-clause-only
returns-clause-only c =
    let (t, page, lines) = c.in_ok-table.ensures.page in
    rw (c.in_ok-holding.ensures, kept_tree c.in_ok-table.table t lines) (λ other is. page_once (data_of c.args.place.now) t other page is)

pub returns-clause-found : goal.returns-clause-found
returns-clause-found c =
    let (t, page, lines) = c.in_ok-table.ensures.page in
    rw (c.in_ok-holding.ensures, kept_tree c.in_ok-table.table t lines) (page_found (data_of c.args.place.now) t page)

pub returns-clause-exact : goal.returns-clause-exact
returns-clause-exact c =
    let (t, page, lines) = c.in_ok-table.ensures.page in
    rw (c.in_ok-holding.ensures, kept_tree c.in_ok-table.table t lines) (page_given (data_of c.args.place.now) t page)
