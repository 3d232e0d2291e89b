use Rattle.std.proofs.Common.{◌≡◌, ◌+◌, ◌-◌, ◌++◌, flat_map}
use Rattle.std.specs.List.{range_with_len}
use Rattle.review_lists.specs.PageLinks.{page_entry}
use Rattle.review_lists.proofs.page_links.add_near.Given as goal

abbrev pub invariant-loop-page : goal.invariant-loop-page
invariant-loop-page l = let entry = page_entry l.before l.behind l.per l.count l.here in
    l.out.items ++ flat_map entry (range_with_len l.page (l.page-end - l.page))
    ≡ l.initial.out.items ++ flat_map entry (range_with_len l.low (l.high + 1 - l.low))
