use Rattle.std.proofs.Common.{ℕ, List, ◌++◌, map, ap, ◌∙◌}
use Rattle.std.specs.Borrow.{Bor}
use Rattle.std.specs.List.{flat_map}
use Rattle.warp_run.specs.declared.repaired.ClientSummary.{ClientSummary}
use Rattle.review_lists.specs.SearchView.{searched, found_names, finds_of, found_told}
use Rattle.review_lists.proofs.search_view.add_search.Goals as goal

pub returns : goal.returns
returns g c =
    let now = λ (name : Bor (List ℕ)). name.now in
    let text = c.args.text.now in
    let out = c.args.out.now.items in
    let from = c.args.from in
    let clients = c.searched-clients.result.now in
    let finds = λ (sought : List ℕ). finds_of sought c.args.logs.now c.args.repaired.now.desk in
    let these = flat_map (finds c.new-sought.result.text.now) clients in
    let whole = λ (sought : List ℕ) (them : List ClientSummary).
    out ++ found_told text (found_names sought them) (flat_map (finds sought) them) from in
    c.in_ok-add_found.ensures these c.in_ok-page.ensures
    ∙ ap (λ names. out ++ found_told text names these from) (ap (map now) c.as_slice-2.ensures.value ∙ c.in_ok-names.ensures)
    ∙ ap (λ sought. whole sought clients) c.new-sought.ensures
    ∙ ap (whole text) (c.searched-clients.ensures ∙ ap (searched text) c.as_slice.ensures)
