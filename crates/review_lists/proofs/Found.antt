-- What is found, as it is told.
use Rattle.std.proofs.Common.{◌≡◌, ℕ, ◌+◌, ◌-◌, ◌^◌, List, [], ◌++◌, length, map, min, decimal, eqb, false, cond, ap, ◌∙◌, arith}
use Rattle.std.specs.Borrow.{Bor}
use Rattle.std.specs.List.{flat_map, concat}
use Rattle.std.proofs.lemmas.List.{length-map, take-map}
use Rattle.review_pieces.specs.Pieces.{found_client_html, found_clients_html, search_html}
use Rattle.review_lists.specs.Capped.{capped}
use Rattle.review_lists.specs.PageLinks.{listed_from}
use Rattle.review_lists.specs.UploadList.{more_than}
use Rattle.review_lists.specs.SearchView.{client_finds, found_told, search_pages}

pub names_told : (names : List (Bor (List ℕ))) → eqb (length names) 0 ≡ false
    → client_finds (map (λ name. name.now) names)
    ≡ found_clients_html (flat_map found_client_html (map (λ name. name.now) (listed_from 0 100 names)) ++ more_than 100 (length names))
unfolding client_finds
names_told names some =
    let now = λ (name : Bor (List ℕ)). name.now in
    let all = flat_map found_client_html (listed_from 0 100 (map now names)) in
    ap (λ n. cond (eqb n 0) [] (found_clients_html (all ++ more_than 100 n))) (length-map names now)
    ∙ ap (λ b. cond b [] (found_clients_html (all ++ more_than 100 (length names)))) some
    ∙ ap (λ front. found_clients_html (flat_map found_client_html front ++ more_than 100 (length names))) (take-map now 100 names)

pub same_count : (names finds many count : ℕ) → many ≡ capped finds → count ≡ min (names + many) (2 ^ 64 - 1)
    → count ≡ capped (names + finds)
same_count names finds many count is told = omega (arith, is, told)

pub all_told : (text count items rows pages : List ℕ) (names finds : List (List ℕ)) (from : ℕ)
    → count ≡ decimal (capped (length names + length finds)) → items ≡ client_finds names
    → rows ≡ concat (listed_from from 200 finds) → pages ≡ search_pages text from (capped (length finds))
    → search_html count text items rows pages ≡ found_told text names finds from
unfolding found_told
all_told text count items rows pages names finds from count_is items_are rows_are pages_are =
    ap (λ c. search_html c text items rows pages) count_is
    ∙ ap (λ i. search_html (decimal (capped (length names + length finds))) text i rows pages) items_are
    ∙ ap (λ r. search_html (decimal (capped (length names + length finds))) text (client_finds names) r pages) rows_are
    ∙ ap (search_html (decimal (capped (length names + length finds))) text (client_finds names) (concat (listed_from from 200 finds))) pages_are
