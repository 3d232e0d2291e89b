use Rattle.std.proofs.Common.{ℕ, List, ◌++◌, length, map, sym, ap, ◌∙◌}
use Rattle.std.specs.Borrow.{Bor}
use Rattle.std.specs.List.{flat_map}
use Rattle.std.proofs.lemmas.Bool.{ne_eqb}
use Rattle.review_pieces.specs.Pieces.{found_client_html, found_clients_html}
use Rattle.review_lists.specs.UploadList.{more_than}
use Rattle.review_lists.proofs.Found.{names_told}
use Rattle.review_lists.proofs.search_view.add_client_finds.Goals as goal

pub returns : goal.returns
returns c =
    let names = c.args.names.now in
    let more = more_than 100 (length names) in
    let now = λ (name : Bor (List ℕ)). name.now in
    let shown = c.in_ok-add_found_clients.ensures
    ∙ ap (λ front. front ++ flat_map found_client_html (map now c.listed_from.result.now)) c.new-items.ensures.items
    ∙ ap (λ listed. flat_map found_client_html (map now listed)) c.listed_from.ensures in
    let items = c.as_slice.ensures.value ∙ c.in_ok-add_more_than.ensures ∙ ap (λ front. front ++ more) shown in
    c.in_ok-add_found_clients-2.ensures
    ∙ ap (λ all. c.args.out.now.items ++ found_clients_html all) items
    ∙ ap (λ html. c.args.out.now.items ++ html) (sym (names_told names (ne_eqb _ _ c.if-names-eq0.false)))
