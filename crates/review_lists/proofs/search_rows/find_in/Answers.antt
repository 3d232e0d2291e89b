use Rattle.std.proofs.Common.{subst}
use Rattle.std.specs.List.{flat_map}
use Rattle.review_lists.specs.SearchView.{visit_finds}
use Rattle.review_lists.specs.inside.FoundPages.{AddsFinds}
use Rattle.review_lists.proofs.AddedFinds.{then_finds, no_finds, finds_here, finds_end}
use Rattle.review_lists.proofs.search_rows.find_in.Goals as goal

pub loop-place-preserved : goal.loop-place-preserved
loop-place-preserved c = λ page rest.
    let finds = visit_finds c.args.sought.now.text.now c.args.client.now c.args.docket.now c.args.visits.now in
    let here = finds_here finds c.cases-case-items.result.now c.loop-place.place c.case-item.result c.loop-place-test.true c.case-item.is in
    c.loop-place.invariant page (then_finds c.loop-place.page c.look_at.new.page page _ _ _ c.in_ok-look_at.ensures rest here)

pub returns : goal.returns
returns c =
    let finds = visit_finds c.args.sought.now.text.now c.args.client.now c.args.docket.now c.args.visits.now in
    let items = c.cases-case-items.result.now in
    let none = finds_end finds items c.loop-place.place c.loop-place-test.false in
    subst (λ cases. AddsFinds c.args.page.now c.loop-place.page (flat_map finds cases)) c.cases-case-items.ensures.cases
    (c.loop-place.invariant c.loop-place.page (no_finds c.loop-place.page _ none))
