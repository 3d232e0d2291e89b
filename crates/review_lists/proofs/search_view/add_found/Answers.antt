use Rattle.std.proofs.Common.{ℕ, ◌+◌, ◌-◌, ◌^◌, List, ◌++◌, length, map, min, decimal, sym, ap, ◌∙◌}
use Rattle.std.specs.Borrow.{Bor}
use Rattle.std.proofs.lemmas.List.{length-map}
use Rattle.review_lists.specs.SearchView.{client_finds, search_pages}
use Rattle.review_lists.proofs.Found.{same_count, all_told}
use Rattle.review_lists.proofs.search_view.add_found.Goals as goal

pub returns : goal.returns
returns c = λ finds was.
    let now = λ (name : Bor (List ℕ)). name.now in
    let names = map now c.args.names.now in
    let text = c.args.text.now in
    let from = c.args.from in
    let sum = c.saturating_add.ensures ∙ ap (λ n. min (n + c.count-2.result) (2 ^ 64 - 1)) (sym (length-map c.args.names.now now)) in
    let count = c.format.ensures.text
    ∙ ap decimal (same_count (length names) (length finds) c.count-2.result c.saturating_add.result (c.count-2.ensures ∙ was.count_is) sum) in
    let items = c.as_slice.ensures.value ∙ c.in_ok-add_client_finds.ensures ∙ ap (λ front. front ++ client_finds names) c.new-items.ensures.items in
    let pages = c.as_slice-2.ensures.value ∙ c.in_ok-add_search_pages.ensures
    ∙ ap (λ front. front ++ search_pages text from c.count.result) c.new-pages.ensures.items
    ∙ ap (search_pages text from) (c.count.ensures ∙ was.count_is) in
    c.in_ok-add_search.ensures
    ∙ ap (λ html. c.args.out.now.items ++ html) (all_told text _ _ _ _ names finds from count items (c.rows.ensures ∙ was.rows_are) pages)
