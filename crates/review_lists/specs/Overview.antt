-- The overview: what wants attention, what each client has to be decided first, the clients, and the uploads.
use Rattle.std.specs.Prelude.{ℕ, ◌-◌, List, [], ◌++◌, length, map, flat_map, codes, decimal, Bool, ◌==◌, nat_le, if◌then◌else◌, Option, slice_get, option_and_then}
use Rattle.std.specs.Option.{option_map_or}
use Rattle.visit_replay.specs.Conflict.{conflict_code}
use Rattle.visit_replay.specs.declared.outcome.ConflictKind.{ConflictKind}
use Rattle.conflict_desk.specs.Desk.{Books, by_case}
use Rattle.conflict_desk.specs.declared.decided.Standing.TheVariants.{Untouched, Done, Waiting, Kept, Cancelled}
use Rattle.lanes_in_turn.specs.declared.gathered.Gathered.{Gathered}
use Rattle.warp_run.specs.Report.{end_word}
use Rattle.warp_run.specs.declared.repaired.ClientSummary.{ClientSummary}
use Rattle.warp_run.specs.declared.repaired.Repaired.{Repaired}
use Rattle.replay_folder.specs.declared.replayed.ToldUploads.{ToldUploads}
use Rattle.review_state.specs.Fronts.{fronts_of}
use Rattle.review_state.specs.declared.fronts.Front.{Front}
use Rattle.review_pieces.specs.Pieces.{overview_html, fronts_html, front_html, no_fronts_html, row_html}
use Rattle.review_lists.specs.Addresses.{logged_visits, visit_address}
use Rattle.review_lists.specs.Attention.{attention_html}
use Rattle.review_lists.specs.PageLinks.{listed_from, page_links}
use Rattle.conflict_words.specs.Meanings.{meaning_of}
use Rattle.review_lists.specs.Standings.{how_many_of}
use Rattle.review_lists.specs.UploadList.{upload_list}
use Rattle.review_lists.specs.Words.{conflict_in, counted_words}
use Rattle.review_lists.specs.declared.front_list.TheConstants.{FRONTS_A_PAGE, ONE_BEHIND, MORE_BEHIND}
use Rattle.review_lists.specs.declared.client_table.TheConstants.{CLIENTS_A_PAGE}

abbrev pub client_names : List ClientSummary → List (List ℕ)
client_names clients = map (λ client. client.client) clients

-- ---- what each client has to be decided first

-- of so many that wait
abbrev pub behind_words : ℕ → List ℕ
behind_words waiting = if nat_le waiting 1 then [] else counted_words (waiting - 1) ONE_BEHIND.now MORE_BEHIND.now

abbrev pub conflict_at_visit : Books → List ℕ → ℕ → Option (ℕ × ConflictKind)
conflict_at_visit desk client visit = option_and_then conflict_in (by_case (λ _ case. case.outcome) client visit desk)

-- a client's visit with its address, its conflict, and how many wait behind it
unfoldable pub waiting_front : List ℕ → ℕ → List ℕ → ℕ → ℕ × ConflictKind → List ℕ
waiting_front client visit address waiting conflict = front_html client (decimal visit) (conflict_code conflict.1)
    (decimal conflict.0) address (meaning_of conflict.1) (behind_words waiting)

-- the address of another page of them keeps which clients are shown
abbrev pub front_pages : ℕ → ℕ → ℕ → List ℕ
front_pages from shown count = page_links (codes "Clients whose visits wait")
    (codes "/?clients=" ++ (decimal shown ++ codes "&from=")) [] FRONTS_A_PAGE from count

module _ {R : Type 0} (logs : Gathered R) (desk : Books) where
  unfoldable pub front_entry_of : List ℕ → ℕ → List ℕ
  front_entry_of client visit = option_map_or
      (waiting_front client visit (visit_address (logged_visits logs client) visit) (how_many_of desk client Waiting))
      (conflict_at_visit desk client visit) []

  -- a front is of the client at its place
  unfoldable pub front_entry : List (List ℕ) → Front → List ℕ
  front_entry clients front =
      option_map_or (λ client. front_entry_of client front.visit) (slice_get clients front.client) []

  -- the page of them that begins at the front `from`
  unfoldable pub front_list : List (List ℕ) → ℕ → ℕ → List ℕ
  front_list clients from shown = let fronts = fronts_of desk clients in
      if length fronts == 0 then no_fronts_html
      else fronts_html (flat_map (front_entry clients) (listed_from from FRONTS_A_PAGE fronts))
      (front_pages from shown (length fronts))

-- ---- the table of clients

unfoldable pub client_row : Books → ClientSummary → List ℕ
client_row desk client = let many = how_many_of desk client.client in
    row_html client.client (end_word client.end) (decimal (many Waiting)) (decimal (many Kept))
    (decimal (many Cancelled)) (decimal (many Done)) (decimal (many Untouched)) (decimal client.lost)

abbrev pub client_rows : Books → ℕ → List ClientSummary → List ℕ
client_rows desk from clients = flat_map (client_row desk) (listed_from from CLIENTS_A_PAGE clients)

-- the address of another page of it keeps which fronts are shown
abbrev pub client_pages : ℕ → ℕ → ℕ → List ℕ
client_pages from shown count = page_links (codes "Clients")
    (codes "/?from=" ++ (decimal from ++ codes "&clients=")) (codes "#clients") CLIENTS_A_PAGE shown count

-- ---- all of it

unfoldable pub overview : {R : Type 0} → ToldUploads → Gathered R → Repaired → Bool → ℕ → ℕ → List ℕ
overview told logs repaired is_closed from shown = overview_html (attention_html told repaired is_closed)
    (front_list logs repaired.desk (client_names repaired.clients) from shown)
    (client_rows repaired.desk shown repaired.clients) (client_pages from shown (length repaired.clients))
    (upload_list told)
