use Rattle.std.proofs.Common.{drop}
use Rattle.std.specs.List.{flat_map}
use Rattle.review_lists.specs.SearchView.{finds_of}
use Rattle.review_lists.specs.inside.FoundPages.{AddsFinds}
use Rattle.review_lists.specs.declared.found_page.FoundPage.{FoundPage}
use Rattle.review_lists.proofs.search_rows.find_all.Given as goal

-- what finds the rest from here finds all from the start
abbrev pub invariant-loop-client : goal.invariant-loop-client
invariant-loop-client g l = let finds = finds_of l.sought.text.now l.logs l.desk in
    (page : FoundPage) → AddsFinds l.page page (flat_map finds (drop l.client-index l.clients))
    → AddsFinds l.initial.page page (flat_map finds l.clients)
