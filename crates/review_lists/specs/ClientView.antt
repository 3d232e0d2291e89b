-- A client: its last upload, how its visits stand, and the tree of them.
use Rattle.std.specs.Prelude.{◌≡◌, ℕ, zero, suc, List, [], ◌++◌, length, flat_map, codes, decimal, Bool, true, false, if◌then◌else◌, nat_eq, min, Option, Some, MatchOption, slice_get, slice_index_or}
use Rattle.std.specs.Option.{option_eq, option_map_or}
use Rattle.std.specs.List.{find}
use Rattle.std.specs.Str.{bytes_eq}
use Rattle.client_log.specs.declared.visit.Visit.{Visit}
use Rattle.conflict_desk.specs.Book.{Book, front_visit, standing_in}
use Rattle.conflict_desk.specs.Desk.{book_of}
use Rattle.conflict_desk.specs.Docket.{parent_of}
use Rattle.conflict_desk.specs.declared.decided.Standing.TheVariants.{Untouched, Done, Waiting, Kept, Cancelled}
use Rattle.conflict_desk.specs.declared.docket.Case.{Case}
use Rattle.lanes_in_turn.specs.declared.gathered.Gathered.{Gathered}
use Rattle.warp_run.specs.Report.{end_word, standing_word}
use Rattle.warp_run.specs.declared.repaired.ClientSummary.{ClientSummary}
use Rattle.warp_run.specs.declared.repaired.Repaired.{Repaired}
use Rattle.review_state.specs.Branches.{IsBranched}
use Rattle.review_state.specs.Counts.{how_many}
use Rattle.review_state.specs.declared.branches.Branches.{Branches}
use Rattle.review_pieces.specs.Pieces.{branch_html, client_html, client_counts_html, client_upload_html, level_html, next_html}
use Rattle.review_lists.specs.Addresses.{logged_visits, visit_address}
use Rattle.review_lists.specs.PageLinks.{listed_from, page_links}
use Rattle.review_lists.specs.Words.{outcome_text}
use Rattle.review_lists.specs.declared.tree_rows.TheConstants.{VISITS_A_PAGE, LEVELS_DRAWN, HERE}

-- what is said of a client of that name
abbrev pub summary_named : List ℕ → List ClientSummary → Option ClientSummary
summary_named name clients = find (λ client. bytes_eq name client.client) clients

-- ---- a visit in the tree

abbrev pub opened_words : Option Case → List ℕ
opened_words parent = option_map_or (λ parent. codes "opened by visit " ++ decimal parent.visit) parent []

-- which visit opened it, where the docket has that
abbrev pub opened_text : List Case → Case → List ℕ
opened_text cases case = opened_words (parent_of cases case)

-- so many marks of levels
unfoldable pub drawn_levels : ℕ → List ℕ
drawn_levels zero = []
drawn_levels (suc n) = level_html ++ drawn_levels n

-- one for each visit above, as far as there is room
abbrev pub level_marks : ℕ → List ℕ
level_marks level = drawn_levels (min level LEVELS_DRAWN)

-- the front is marked
abbrev pub front_mark : Book → Case → List ℕ
front_mark book case = if option_eq nat_eq (front_visit book) (Some case.visit) then HERE.now else []

unfoldable pub visit_branch : List ℕ → Book → List Visit → ℕ → Case → List ℕ
visit_branch client book visits level case =
    branch_html client (decimal case.visit) (standing_word (standing_in book case)) (visit_address visits case.visit)
    (outcome_text case.outcome) (opened_text book.cases case) (front_mark book case) (level_marks level)

-- that at a place, which stands so deep
unfoldable pub branch_at : List ℕ → Book → List Visit → List ℕ → ℕ → List ℕ
branch_at client book visits levels place =
    option_map_or (visit_branch client book visits (slice_index_or levels place 0)) (slice_get book.cases place) []

-- ---- all of it

abbrev pub told_upload : ClientSummary → List ℕ
told_upload client =
    client_upload_html (end_word client.end) (decimal client.taken) (decimal client.cost) (decimal client.lost)

abbrev pub told_counts : Book → List ℕ
told_counts book = let many = how_many book in client_counts_html (decimal (many Waiting)) (decimal (many Kept))
    (decimal (many Cancelled)) (decimal (many Done)) (decimal (many Untouched))

abbrev pub told_next : List ℕ → Book → List ℕ
told_next client book = option_map_or (λ visit. next_html client (decimal visit)) (front_visit book) []

abbrev pub tree_pages : List ℕ → ℕ → ℕ → List ℕ
tree_pages client from count = page_links (codes "Visits") (codes "/client?c=" ++ (client ++ codes "&from="))
    (codes "#visits") VISITS_A_PAGE from count

unfoldable pub client_told : ClientSummary → Book → List Visit → Branches → ℕ → List ℕ
client_told client book visits tree from = let order = tree.order.items in let name = client.client in
    client_html name (told_upload client) (told_counts book) (told_next name book)
    (flat_map (branch_at name book visits tree.levels.items) (listed_from from VISITS_A_PAGE order))
    (tree_pages name from (length order))

-- what is told is that of the tree of the client's visits
abbrev pub TellsClient : ClientSummary → Book → List Visit → ℕ → List ℕ → Type 0
TellsClient client book visits from html =
    (tree : Branches) × IsBranched book.cases tree × (html ≡ client_told client book visits tree from)

-- true where the client has a book, and then it is told; else false, and nothing is added
abbrev pub AddsBook : {R : Type 0}
    → Gathered R → Option Book → ClientSummary → List ℕ → ℕ → List ℕ → List ℕ → Bool → Type 0
AddsBook logs found client name from old new there = MatchOption found ((there ≡ false) × (new ≡ old))
    (λ book. (there ≡ true) × (html : List ℕ) × (new ≡ old ++ html)
    × TellsClient client book (logged_visits logs name) from html)

-- the same of the client of that name, if there is one
abbrev pub AddsClient : {R : Type 0} → Gathered R → Repaired → List ℕ → ℕ → List ℕ → List ℕ → Bool → Type 0
AddsClient logs repaired name from old new there =
    MatchOption (summary_named name repaired.clients) ((there ≡ false) × (new ≡ old))
    (λ client. AddsBook logs (book_of name repaired.desk) client name from old new there)
