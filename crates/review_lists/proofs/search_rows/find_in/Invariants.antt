use Rattle.std.proofs.Common.{drop}
use Rattle.std.specs.List.{flat_map}
use Rattle.review_lists.specs.SearchView.{visit_finds}
use Rattle.review_lists.specs.inside.FoundPages.{AddsFinds}
use Rattle.review_lists.specs.declared.found_page.FoundPage.{FoundPage}
use Rattle.review_lists.proofs.search_rows.find_in.Given as goal

-- what finds the rest from here finds all from the start
abbrev pub invariant-loop-place : goal.invariant-loop-place
invariant-loop-place l = let finds = visit_finds l.sought.text.now l.client l.docket l.visits in
    (page : FoundPage) → AddsFinds l.page page (flat_map finds (drop l.place l.case-items))
    → AddsFinds l.initial.page page (flat_map finds l.case-items)
