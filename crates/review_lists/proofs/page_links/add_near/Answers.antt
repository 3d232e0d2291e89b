use Rattle.std.proofs.Common.{◌+◌, ◌-◌, ◌++◌, flat_map, append_assoc, sym, ap, ◌∙◌, arith}
use Rattle.std.specs.List.{range_with_len}
use Rattle.review_lists.specs.PageLinks.{page_entry}
use Rattle.review_lists.proofs.Pages.{range_first}
use Rattle.review_lists.proofs.page_links.add_near.Goals as goal

pub loop-page-preserved : goal.loop-page-preserved
loop-page-preserved c =
    let entry = page_entry c.args.before.now c.args.behind.now c.args.per c.args.count c.args.here in
    let page = c.loop-page.page in
    let end = c.args.high + 1 in
    let rest = flat_map entry (range_with_len (page + 1) (end - (page + 1))) in
    let done = c.loop-page.out.items in
    ap (λ items. items ++ rest) c.in_ok-add_link.ensures
    ∙ append_assoc done (entry page) rest
    ∙ ap (λ pages. done ++ flat_map entry pages) (sym (range_first page end (omega arith)))
    ∙ c.loop-page.invariant
