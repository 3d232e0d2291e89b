-- What is found: clients by a part of their names, visits by a part of their addresses or by their conflict's code.
use Rattle.std.specs.Prelude.{ℕ, ◌+◌, List, [], ◌∷◌, ◌++◌, length, filter, take, flat_map, codes, decimal, Bool, ◌||◌, ◌==◌, if◌then◌else◌}
use Rattle.std.specs.Option.{option_map_or}
use Rattle.std.specs.List.{concat}
use Rattle.std.specs.Str.{bytes_eq}
use Rattle.form_urlencoded.specs.Form.{byte_serialize}
use Rattle.client_log.specs.declared.visit.Visit.{Visit}
use Rattle.conflict_desk.specs.Book.{Book, standing_in}
use Rattle.conflict_desk.specs.Desk.{Books, book_of}
use Rattle.conflict_desk.specs.declared.docket.Case.{Case}
use Rattle.lanes_in_turn.specs.declared.gathered.Gathered.{Gathered}
use Rattle.warp_run.specs.Report.{standing_word}
use Rattle.warp_run.specs.declared.repaired.ClientSummary.{ClientSummary}
use Rattle.warp_run.specs.declared.repaired.Repaired.{Repaired}
use Rattle.review_state.specs.Finding.{has_code}
use Rattle.review_pieces.specs.Pieces.{found_html, found_client_html, found_clients_html, search_html}
use Rattle.review_lists.specs.Capped.{capped}
use Rattle.review_lists.specs.Addresses.{logged_visits, visit_address}
use Rattle.review_lists.specs.Overview.{client_names}
use Rattle.review_lists.specs.PageLinks.{listed_from, page_links}
use Rattle.review_lists.specs.UploadList.{more_than}
use Rattle.review_lists.specs.Words.{outcome_text}
use Rattle.review_lists.specs.declared.found_page.TheConstants.{VISITS_FOUND}
use Rattle.review_lists.specs.declared.search_view.TheConstants.{CLIENTS_FOUND}

abbrev pub starts_so : List ℕ → List ℕ → Bool
starts_so part text = bytes_eq (take (length part) text) part

-- the text has that part: it starts with it, or what stands behind its first byte has it
abbrev pub has_in_it : List ℕ → List ℕ → Bool
has_in_it part [] = starts_so part []
has_in_it part (byte ∷ rest) = starts_so part (byte ∷ rest) || has_in_it part rest

-- nothing is looked for in any, where nothing is asked for
abbrev pub searched : List ℕ → List ClientSummary → List ClientSummary
searched text clients = if length text == 0 then [] else clients

-- ---- clients

abbrev pub found_names : List ℕ → List ClientSummary → List (List ℕ)
found_names text clients = filter (has_in_it text) (client_names clients)

-- the first of them, and how many more there are; nothing where none is
unfoldable pub client_finds : List (List ℕ) → List ℕ
client_finds names = if length names == 0 then []
    else found_clients_html (flat_map found_client_html (listed_from 0 CLIENTS_FOUND names)
    ++ more_than CLIENTS_FOUND (length names))

-- ---- visits

unfoldable pub is_found_visit : List ℕ → List Visit → Case → Bool
is_found_visit text visits case = has_code text case.outcome || has_in_it text (visit_address visits case.visit)

unfoldable pub visit_find : List ℕ → Book → List Visit → Case → List ℕ
visit_find client book visits case = found_html client (decimal case.visit) (standing_word (standing_in book case))
    (visit_address visits case.visit) (outcome_text case.outcome)

unfoldable pub visit_finds : List ℕ → List ℕ → Book → List Visit → Case → List (List ℕ)
visit_finds text client book visits case =
    if is_found_visit text visits case then visit_find client book visits case ∷ [] else []

-- a client's, in the order of their numbers
abbrev pub finds_in : List ℕ → List ℕ → List Visit → Book → List (List ℕ)
finds_in text client visits book = flat_map (visit_finds text client book visits) book.cases

unfoldable pub finds_of : {R : Type 0} → List ℕ → Gathered R → Books → ClientSummary → List (List ℕ)
finds_of text logs desk client = let name = client.client in
    option_map_or (finds_in text name (logged_visits logs name)) (book_of name desk) []

-- ---- all of it

abbrev pub search_pages : List ℕ → ℕ → ℕ → List ℕ
search_pages text from count = page_links (codes "Visits found")
    (codes "/search?q=" ++ (byte_serialize text ++ codes "&from=")) [] VISITS_FOUND from count

-- these clients and these rows of visits were found
unfoldable pub found_told : List ℕ → List (List ℕ) → List (List ℕ) → ℕ → List ℕ
found_told text names finds from =
    search_html (decimal (capped (length names + length finds))) text (client_finds names)
    (concat (listed_from from VISITS_FOUND finds)) (search_pages text from (capped (length finds)))

abbrev pub search_told : {R : Type 0} → Gathered R → Repaired → List ℕ → ℕ → List ℕ
search_told logs repaired text from = let clients = searched text repaired.clients in
    found_told text (found_names text clients) (flat_map (finds_of text logs repaired.desk) clients) from
