-- HTML that is made of the pieces of `review/pieces/` and of drawings. `tools/pieces` writes this file.
use Rattle.std.specs.Prelude.{◌≡◌, ℕ, List, [], ◌++◌}
use Rattle.markup.specs.Drawing.{Drawings, html_of_all}
use Rattle.review_pieces.specs.Pieces.{along_html, along_more_html, along_none_html, along_one_html, around_html, branch_html, client_html, client_counts_html, client_upload_html, closed_html, conflict_html, drawn_html, event_html, event_here_html, event_line_html, figure_html, foot_html, found_html, found_client_html, found_clients_html, front_html, fronts_html, head_html, level_html, more_html, next_html, no_fronts_html, no_page_html, not_front_html, note_html, opener_html, overview_html, page_here_html, page_link_html, pages_html, pairs_html, part_gone_html, part_new_html, part_same_html, pressed_html, refused_html, request_html, requests_html, requests_none_html, row_html, search_html, text_html, text_empty_html, texts_html, typed_html, upload_html, uploads_html, value_html, visit_html, visit_events_html, visit_pages_html, visit_requests_html}

-- What it is made of: nothing, two behind one another, drawings; or a piece with texts and such HTML in its slots. The
-- piece with the two forms that a decision is sent by is none of them.
pub data MadeHtml : Type 0 where
  no_html : MadeHtml
  joined_html : MadeHtml → MadeHtml → MadeHtml
  drawn_html_of : Drawings → MadeHtml
  piece_along : List ℕ → MadeHtml → MadeHtml
  piece_along_more : List ℕ → List ℕ → MadeHtml
  piece_along_none : MadeHtml
  piece_along_one : List ℕ → List ℕ → List ℕ → List ℕ → MadeHtml
  piece_around : MadeHtml → MadeHtml
  piece_branch : List ℕ → List ℕ → List ℕ → List ℕ → List ℕ → List ℕ → MadeHtml → MadeHtml → MadeHtml
  piece_client : List ℕ → MadeHtml → MadeHtml → MadeHtml → MadeHtml → MadeHtml → MadeHtml
  piece_client_counts : List ℕ → List ℕ → List ℕ → List ℕ → List ℕ → MadeHtml
  piece_client_upload : List ℕ → List ℕ → List ℕ → List ℕ → MadeHtml
  piece_closed : MadeHtml
  piece_conflict : List ℕ → List ℕ → List ℕ → List ℕ → MadeHtml
  piece_drawn : List ℕ → MadeHtml → MadeHtml
  piece_event : List ℕ → List ℕ → List ℕ → List ℕ → MadeHtml → MadeHtml
  piece_event_here : MadeHtml
  piece_event_line : List ℕ → List ℕ → MadeHtml → MadeHtml → MadeHtml
  piece_figure : List ℕ → List ℕ → List ℕ → List ℕ → List ℕ → MadeHtml
  piece_foot : MadeHtml
  piece_found : List ℕ → List ℕ → List ℕ → List ℕ → List ℕ → MadeHtml
  piece_found_client : List ℕ → MadeHtml
  piece_found_clients : MadeHtml → MadeHtml
  piece_front : List ℕ → List ℕ → List ℕ → List ℕ → List ℕ → List ℕ → List ℕ → MadeHtml
  piece_fronts : MadeHtml → MadeHtml → MadeHtml
  piece_head : List ℕ → List ℕ → List ℕ → List ℕ → MadeHtml → MadeHtml
  piece_level : MadeHtml
  piece_more : List ℕ → MadeHtml
  piece_next : List ℕ → List ℕ → MadeHtml
  piece_no_fronts : MadeHtml
  piece_no_page : List ℕ → List ℕ → MadeHtml
  piece_not_front : List ℕ → List ℕ → MadeHtml
  piece_note : List ℕ → List ℕ → MadeHtml
  piece_opener : List ℕ → List ℕ → List ℕ → MadeHtml
  piece_overview : MadeHtml → MadeHtml → MadeHtml → MadeHtml → MadeHtml → MadeHtml
  piece_page_here : List ℕ → MadeHtml
  piece_page_link : List ℕ → List ℕ → MadeHtml
  piece_pages : List ℕ → MadeHtml → MadeHtml
  piece_pairs : List ℕ → MadeHtml
  piece_part_gone : List ℕ → MadeHtml
  piece_part_new : List ℕ → MadeHtml
  piece_part_same : List ℕ → MadeHtml
  piece_pressed : List ℕ → MadeHtml
  piece_refused : List ℕ → List ℕ → List ℕ → List ℕ → List ℕ → MadeHtml
  piece_request : List ℕ → List ℕ → MadeHtml → MadeHtml
  piece_requests : MadeHtml → MadeHtml
  piece_requests_none : List ℕ → MadeHtml
  piece_row : List ℕ → List ℕ → List ℕ → List ℕ → List ℕ → List ℕ → List ℕ → List ℕ → MadeHtml
  piece_search : List ℕ → List ℕ → MadeHtml → MadeHtml → MadeHtml → MadeHtml
  piece_text : MadeHtml → MadeHtml
  piece_text_empty : List ℕ → MadeHtml
  piece_texts : List ℕ → List ℕ → List ℕ → MadeHtml → MadeHtml → MadeHtml → MadeHtml
  piece_typed : MadeHtml → MadeHtml
  piece_upload : List ℕ → List ℕ → MadeHtml
  piece_uploads : List ℕ → List ℕ → MadeHtml → MadeHtml
  piece_value : List ℕ → MadeHtml
  piece_visit : List ℕ → List ℕ → List ℕ → List ℕ → MadeHtml → MadeHtml → MadeHtml → MadeHtml → MadeHtml
  piece_visit_events : List ℕ → MadeHtml → MadeHtml → MadeHtml
  piece_visit_pages : MadeHtml → MadeHtml → MadeHtml
  piece_visit_requests : List ℕ → List ℕ → MadeHtml → MadeHtml → MadeHtml

abbrev pub html_made : MadeHtml → List ℕ
html_made no_html = []
html_made (joined_html front rest) = html_made front ++ html_made rest
html_made (drawn_html_of drawings) = html_of_all drawings
html_made (piece_along count items) = along_html count (html_made items)
html_made (piece_along_more client count) = along_more_html client count
html_made piece_along_none = along_none_html
html_made (piece_along_one client visit state address) = along_one_html client visit state address
html_made (piece_around links) = around_html (html_made links)
html_made (piece_branch client visit state address conflict opened here levels) =
    branch_html client visit state address conflict opened (html_made here) (html_made levels)
html_made (piece_client client upload counts next items pages) =
    client_html client (html_made upload) (html_made counts) (html_made next) (html_made items) (html_made pages)
html_made (piece_client_counts waiting kept cancelled done untouched) =
    client_counts_html waiting kept cancelled done untouched
html_made (piece_client_upload end taken cost lost) = client_upload_html end taken cost lost
html_made piece_closed = closed_html
html_made (piece_conflict code at sentence todo) = conflict_html code at sentence todo
html_made (piece_drawn title tree) = drawn_html title (html_made tree)
html_made (piece_event what target then now pressed) = event_html what target then now (html_made pressed)
html_made piece_event_here = event_here_html
html_made (piece_event_line what target here value) = event_line_html what target (html_made here) (html_made value)
html_made (piece_figure head client visit of caption) = figure_html head client visit of caption
html_made piece_foot = foot_html
html_made (piece_found client visit state address conflict) = found_html client visit state address conflict
html_made (piece_found_client client) = found_client_html client
html_made (piece_found_clients items) = found_clients_html (html_made items)
html_made (piece_front client visit code at address sentence behind) =
    front_html client visit code at address sentence behind
html_made (piece_fronts items pages) = fronts_html (html_made items) (html_made pages)
html_made (piece_head title waiting decided query at_overview) =
    head_html title waiting decided query (html_made at_overview)
html_made piece_level = level_html
html_made (piece_more count) = more_html count
html_made (piece_next client visit) = next_html client visit
html_made piece_no_fronts = no_fronts_html
html_made (piece_no_page head caption) = no_page_html head caption
html_made (piece_not_front front client) = not_front_html front client
html_made (piece_note role text) = note_html role text
html_made (piece_opener client parent from) = opener_html client parent from
html_made (piece_overview notes fronts rows pages uploads) =
    overview_html (html_made notes) (html_made fronts) (html_made rows) (html_made pages) (html_made uploads)
html_made (piece_page_here text) = page_here_html text
html_made (piece_page_link href text) = page_link_html href text
html_made (piece_pages label links) = pages_html label (html_made links)
html_made (piece_pairs pairs) = pairs_html pairs
html_made (piece_part_gone text) = part_gone_html text
html_made (piece_part_new text) = part_new_html text
html_made (piece_part_same text) = part_same_html text
html_made (piece_pressed by) = pressed_html by
html_made (piece_refused head answer text href link) = refused_html head answer text href link
html_made (piece_request method address pairs) = request_html method address (html_made pairs)
html_made (piece_requests items) = requests_html (html_made items)
html_made (piece_requests_none why) = requests_none_html why
html_made (piece_row client end waiting kept cancelled done untouched lost) =
    row_html client end waiting kept cancelled done untouched lost
html_made (piece_search count query clients items pages) =
    search_html count query (html_made clients) (html_made items) (html_made pages)
html_made (piece_text parts) = text_html (html_made parts)
html_made (piece_text_empty why) = text_empty_html why
html_made (piece_texts head was_head is_head was is typed) =
    texts_html head was_head is_head (html_made was) (html_made is) (html_made typed)
html_made (piece_typed text) = typed_html (html_made text)
html_made (piece_upload name end) = upload_html name end
html_made (piece_uploads count refused items) = uploads_html count refused (html_made items)
html_made (piece_value value) = value_html value
html_made (piece_visit client visit state address opener told conflict decide) =
    visit_html client visit state address (html_made opener) (html_made told) (html_made conflict) (html_made decide)
html_made (piece_visit_events start events around) = visit_events_html start (html_made events) (html_made around)
html_made (piece_visit_pages recorded repaired) = visit_pages_html (html_made recorded) (html_made repaired)
html_made (piece_visit_requests stand asked_head before asked) =
    visit_requests_html stand asked_head (html_made before) (html_made asked)

-- the text is such HTML
pub record IsMade (text : List ℕ) : Type 0 where
  pub html : MadeHtml
  pub is : text ≡ html_made html
