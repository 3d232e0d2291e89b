-- With a piece more HTML is still made of pieces. `tools/pieces` writes this file.
use Rattle.std.proofs.Common.{◌≡◌, ℕ, List, ◌++◌}
use Rattle.review_pieces.specs.Pieces.{along_html, along_more_html, along_none_html, along_one_html, around_html, branch_html, client_html, client_counts_html, client_upload_html, closed_html, conflict_html, drawn_html, event_html, event_here_html, event_line_html, figure_html, foot_html, found_html, found_client_html, found_clients_html, front_html, fronts_html, head_html, level_html, more_html, next_html, no_fronts_html, no_page_html, not_front_html, note_html, opener_html, overview_html, page_here_html, page_link_html, pages_html, pairs_html, part_gone_html, part_new_html, part_same_html, pressed_html, refused_html, request_html, requests_html, requests_none_html, row_html, search_html, text_html, text_empty_html, texts_html, typed_html, upload_html, uploads_html, value_html, visit_html, visit_events_html, visit_pages_html, visit_requests_html}
use Rattle.made_html.specs.Made.{MadeHtml, joined_html, IsMade, html_made, piece_along, piece_along_more, piece_along_none, piece_along_one, piece_around, piece_branch, piece_client, piece_client_counts, piece_client_upload, piece_closed, piece_conflict, piece_drawn, piece_event, piece_event_here, piece_event_line, piece_figure, piece_foot, piece_found, piece_found_client, piece_found_clients, piece_front, piece_fronts, piece_head, piece_level, piece_more, piece_next, piece_no_fronts, piece_no_page, piece_not_front, piece_note, piece_opener, piece_overview, piece_page_here, piece_page_link, piece_pages, piece_pairs, piece_part_gone, piece_part_new, piece_part_same, piece_pressed, piece_refused, piece_request, piece_requests, piece_requests_none, piece_row, piece_search, piece_text, piece_text_empty, piece_texts, piece_typed, piece_upload, piece_uploads, piece_value, piece_visit, piece_visit_events, piece_visit_pages, piece_visit_requests}

pub made_along : (old new count items : List ℕ)
    → IsMade old → IsMade items
    → new ≡ old ++ along_html count items → IsMade new
made_along old new count items is_old is_items e =
    record {
      html = joined_html is_old.html (piece_along count is_items.html);
      is = cc;
    }

pub made_along_more : (old new client count : List ℕ)
    → IsMade old
    → new ≡ old ++ along_more_html client count → IsMade new
made_along_more old new client count is_old e =
    record {
      html = joined_html is_old.html (piece_along_more client count);
      is = cc;
    }

pub made_along_none : (old new : List ℕ)
    → IsMade old
    → new ≡ old ++ along_none_html → IsMade new
made_along_none old new is_old e =
    record {
      html = joined_html is_old.html piece_along_none;
      is = cc;
    }

pub made_along_one : (old new client visit state address : List ℕ)
    → IsMade old
    → new ≡ old ++ along_one_html client visit state address → IsMade new
made_along_one old new client visit state address is_old e =
    record {
      html = joined_html is_old.html (piece_along_one client visit state address);
      is = cc;
    }

pub made_around : (old new links : List ℕ)
    → IsMade old → IsMade links
    → new ≡ old ++ around_html links → IsMade new
made_around old new links is_old is_links e =
    record {
      html = joined_html is_old.html (piece_around is_links.html);
      is = cc;
    }

pub made_branch : (old new client visit state address conflict opened here levels : List ℕ)
    → IsMade old → IsMade here → IsMade levels
    → new ≡ old ++ branch_html client visit state address conflict opened here levels → IsMade new
made_branch old new client visit state address conflict opened here levels is_old is_here is_levels e =
    record {
      html = joined_html is_old.html (piece_branch client visit state address conflict opened is_here.html is_levels.html);
      is = cc;
    }

pub made_client : (old new client upload counts next items pages : List ℕ)
    → IsMade old → IsMade upload → IsMade counts → IsMade next → IsMade items → IsMade pages
    → new ≡ old ++ client_html client upload counts next items pages → IsMade new
made_client old new client upload counts next items pages is_old is_upload is_counts is_next is_items is_pages e =
    record {
      html = joined_html is_old.html (piece_client client is_upload.html is_counts.html is_next.html is_items.html is_pages.html);
      is = cc;
    }

pub made_client_counts : (old new waiting kept cancelled done untouched : List ℕ)
    → IsMade old
    → new ≡ old ++ client_counts_html waiting kept cancelled done untouched → IsMade new
made_client_counts old new waiting kept cancelled done untouched is_old e =
    record {
      html = joined_html is_old.html (piece_client_counts waiting kept cancelled done untouched);
      is = cc;
    }

pub made_client_upload : (old new end taken cost lost : List ℕ)
    → IsMade old
    → new ≡ old ++ client_upload_html end taken cost lost → IsMade new
made_client_upload old new end taken cost lost is_old e =
    record {
      html = joined_html is_old.html (piece_client_upload end taken cost lost);
      is = cc;
    }

pub made_closed : (old new : List ℕ)
    → IsMade old
    → new ≡ old ++ closed_html → IsMade new
made_closed old new is_old e =
    record {
      html = joined_html is_old.html piece_closed;
      is = cc;
    }

pub made_conflict : (old new code at sentence todo : List ℕ)
    → IsMade old
    → new ≡ old ++ conflict_html code at sentence todo → IsMade new
made_conflict old new code at sentence todo is_old e =
    record {
      html = joined_html is_old.html (piece_conflict code at sentence todo);
      is = cc;
    }

pub made_drawn : (old new title tree : List ℕ)
    → IsMade old → IsMade tree
    → new ≡ old ++ drawn_html title tree → IsMade new
made_drawn old new title tree is_old is_tree e =
    record {
      html = joined_html is_old.html (piece_drawn title is_tree.html);
      is = cc;
    }

pub made_event : (old new what target then now pressed : List ℕ)
    → IsMade old → IsMade pressed
    → new ≡ old ++ event_html what target then now pressed → IsMade new
made_event old new what target then now pressed is_old is_pressed e =
    record {
      html = joined_html is_old.html (piece_event what target then now is_pressed.html);
      is = cc;
    }

pub made_event_here : (old new : List ℕ)
    → IsMade old
    → new ≡ old ++ event_here_html → IsMade new
made_event_here old new is_old e =
    record {
      html = joined_html is_old.html piece_event_here;
      is = cc;
    }

pub made_event_line : (old new what target here value : List ℕ)
    → IsMade old → IsMade here → IsMade value
    → new ≡ old ++ event_line_html what target here value → IsMade new
made_event_line old new what target here value is_old is_here is_value e =
    record {
      html = joined_html is_old.html (piece_event_line what target is_here.html is_value.html);
      is = cc;
    }

pub made_figure : (old new head client visit of caption : List ℕ)
    → IsMade old
    → new ≡ old ++ figure_html head client visit of caption → IsMade new
made_figure old new head client visit of caption is_old e =
    record {
      html = joined_html is_old.html (piece_figure head client visit of caption);
      is = cc;
    }

pub made_foot : (old new : List ℕ)
    → IsMade old
    → new ≡ old ++ foot_html → IsMade new
made_foot old new is_old e =
    record {
      html = joined_html is_old.html piece_foot;
      is = cc;
    }

pub made_found : (old new client visit state address conflict : List ℕ)
    → IsMade old
    → new ≡ old ++ found_html client visit state address conflict → IsMade new
made_found old new client visit state address conflict is_old e =
    record {
      html = joined_html is_old.html (piece_found client visit state address conflict);
      is = cc;
    }

pub made_found_client : (old new client : List ℕ)
    → IsMade old
    → new ≡ old ++ found_client_html client → IsMade new
made_found_client old new client is_old e =
    record {
      html = joined_html is_old.html (piece_found_client client);
      is = cc;
    }

pub made_found_clients : (old new items : List ℕ)
    → IsMade old → IsMade items
    → new ≡ old ++ found_clients_html items → IsMade new
made_found_clients old new items is_old is_items e =
    record {
      html = joined_html is_old.html (piece_found_clients is_items.html);
      is = cc;
    }

pub made_front : (old new client visit code at address sentence behind : List ℕ)
    → IsMade old
    → new ≡ old ++ front_html client visit code at address sentence behind → IsMade new
made_front old new client visit code at address sentence behind is_old e =
    record {
      html = joined_html is_old.html (piece_front client visit code at address sentence behind);
      is = cc;
    }

pub made_fronts : (old new items pages : List ℕ)
    → IsMade old → IsMade items → IsMade pages
    → new ≡ old ++ fronts_html items pages → IsMade new
made_fronts old new items pages is_old is_items is_pages e =
    record {
      html = joined_html is_old.html (piece_fronts is_items.html is_pages.html);
      is = cc;
    }

pub made_head : (old new title waiting decided query at_overview : List ℕ)
    → IsMade old → IsMade at_overview
    → new ≡ old ++ head_html title waiting decided query at_overview → IsMade new
made_head old new title waiting decided query at_overview is_old is_at_overview e =
    record {
      html = joined_html is_old.html (piece_head title waiting decided query is_at_overview.html);
      is = cc;
    }

pub made_level : (old new : List ℕ)
    → IsMade old
    → new ≡ old ++ level_html → IsMade new
made_level old new is_old e =
    record {
      html = joined_html is_old.html piece_level;
      is = cc;
    }

pub made_more : (old new count : List ℕ)
    → IsMade old
    → new ≡ old ++ more_html count → IsMade new
made_more old new count is_old e =
    record {
      html = joined_html is_old.html (piece_more count);
      is = cc;
    }

pub made_next : (old new client visit : List ℕ)
    → IsMade old
    → new ≡ old ++ next_html client visit → IsMade new
made_next old new client visit is_old e =
    record {
      html = joined_html is_old.html (piece_next client visit);
      is = cc;
    }

pub made_no_fronts : (old new : List ℕ)
    → IsMade old
    → new ≡ old ++ no_fronts_html → IsMade new
made_no_fronts old new is_old e =
    record {
      html = joined_html is_old.html piece_no_fronts;
      is = cc;
    }

pub made_no_page : (old new head caption : List ℕ)
    → IsMade old
    → new ≡ old ++ no_page_html head caption → IsMade new
made_no_page old new head caption is_old e =
    record {
      html = joined_html is_old.html (piece_no_page head caption);
      is = cc;
    }

pub made_not_front : (old new front client : List ℕ)
    → IsMade old
    → new ≡ old ++ not_front_html front client → IsMade new
made_not_front old new front client is_old e =
    record {
      html = joined_html is_old.html (piece_not_front front client);
      is = cc;
    }

pub made_note : (old new role text : List ℕ)
    → IsMade old
    → new ≡ old ++ note_html role text → IsMade new
made_note old new role text is_old e =
    record {
      html = joined_html is_old.html (piece_note role text);
      is = cc;
    }

pub made_opener : (old new client parent from : List ℕ)
    → IsMade old
    → new ≡ old ++ opener_html client parent from → IsMade new
made_opener old new client parent from is_old e =
    record {
      html = joined_html is_old.html (piece_opener client parent from);
      is = cc;
    }

pub made_overview : (old new notes fronts rows pages uploads : List ℕ)
    → IsMade old → IsMade notes → IsMade fronts → IsMade rows → IsMade pages → IsMade uploads
    → new ≡ old ++ overview_html notes fronts rows pages uploads → IsMade new
made_overview old new notes fronts rows pages uploads is_old is_notes is_fronts is_rows is_pages is_uploads e =
    record {
      html = joined_html is_old.html (piece_overview is_notes.html is_fronts.html is_rows.html is_pages.html is_uploads.html);
      is = cc;
    }

pub made_page_here : (old new text : List ℕ)
    → IsMade old
    → new ≡ old ++ page_here_html text → IsMade new
made_page_here old new text is_old e =
    record {
      html = joined_html is_old.html (piece_page_here text);
      is = cc;
    }

pub made_page_link : (old new href text : List ℕ)
    → IsMade old
    → new ≡ old ++ page_link_html href text → IsMade new
made_page_link old new href text is_old e =
    record {
      html = joined_html is_old.html (piece_page_link href text);
      is = cc;
    }

pub made_pages : (old new label links : List ℕ)
    → IsMade old → IsMade links
    → new ≡ old ++ pages_html label links → IsMade new
made_pages old new label links is_old is_links e =
    record {
      html = joined_html is_old.html (piece_pages label is_links.html);
      is = cc;
    }

pub made_pairs : (old new pairs : List ℕ)
    → IsMade old
    → new ≡ old ++ pairs_html pairs → IsMade new
made_pairs old new pairs is_old e =
    record {
      html = joined_html is_old.html (piece_pairs pairs);
      is = cc;
    }

pub made_part_gone : (old new text : List ℕ)
    → IsMade old
    → new ≡ old ++ part_gone_html text → IsMade new
made_part_gone old new text is_old e =
    record {
      html = joined_html is_old.html (piece_part_gone text);
      is = cc;
    }

pub made_part_new : (old new text : List ℕ)
    → IsMade old
    → new ≡ old ++ part_new_html text → IsMade new
made_part_new old new text is_old e =
    record {
      html = joined_html is_old.html (piece_part_new text);
      is = cc;
    }

pub made_part_same : (old new text : List ℕ)
    → IsMade old
    → new ≡ old ++ part_same_html text → IsMade new
made_part_same old new text is_old e =
    record {
      html = joined_html is_old.html (piece_part_same text);
      is = cc;
    }

pub made_pressed : (old new by : List ℕ)
    → IsMade old
    → new ≡ old ++ pressed_html by → IsMade new
made_pressed old new by is_old e =
    record {
      html = joined_html is_old.html (piece_pressed by);
      is = cc;
    }

pub made_refused : (old new head answer text href link : List ℕ)
    → IsMade old
    → new ≡ old ++ refused_html head answer text href link → IsMade new
made_refused old new head answer text href link is_old e =
    record {
      html = joined_html is_old.html (piece_refused head answer text href link);
      is = cc;
    }

pub made_request : (old new method address pairs : List ℕ)
    → IsMade old → IsMade pairs
    → new ≡ old ++ request_html method address pairs → IsMade new
made_request old new method address pairs is_old is_pairs e =
    record {
      html = joined_html is_old.html (piece_request method address is_pairs.html);
      is = cc;
    }

pub made_requests : (old new items : List ℕ)
    → IsMade old → IsMade items
    → new ≡ old ++ requests_html items → IsMade new
made_requests old new items is_old is_items e =
    record {
      html = joined_html is_old.html (piece_requests is_items.html);
      is = cc;
    }

pub made_requests_none : (old new why : List ℕ)
    → IsMade old
    → new ≡ old ++ requests_none_html why → IsMade new
made_requests_none old new why is_old e =
    record {
      html = joined_html is_old.html (piece_requests_none why);
      is = cc;
    }

pub made_row : (old new client end waiting kept cancelled done untouched lost : List ℕ)
    → IsMade old
    → new ≡ old ++ row_html client end waiting kept cancelled done untouched lost → IsMade new
made_row old new client end waiting kept cancelled done untouched lost is_old e =
    record {
      html = joined_html is_old.html (piece_row client end waiting kept cancelled done untouched lost);
      is = cc;
    }

pub made_search : (old new count query clients items pages : List ℕ)
    → IsMade old → IsMade clients → IsMade items → IsMade pages
    → new ≡ old ++ search_html count query clients items pages → IsMade new
made_search old new count query clients items pages is_old is_clients is_items is_pages e =
    record {
      html = joined_html is_old.html (piece_search count query is_clients.html is_items.html is_pages.html);
      is = cc;
    }

pub made_text : (old new parts : List ℕ)
    → IsMade old → IsMade parts
    → new ≡ old ++ text_html parts → IsMade new
made_text old new parts is_old is_parts e =
    record {
      html = joined_html is_old.html (piece_text is_parts.html);
      is = cc;
    }

pub made_text_empty : (old new why : List ℕ)
    → IsMade old
    → new ≡ old ++ text_empty_html why → IsMade new
made_text_empty old new why is_old e =
    record {
      html = joined_html is_old.html (piece_text_empty why);
      is = cc;
    }

pub made_texts : (old new head was_head is_head was is typed : List ℕ)
    → IsMade old → IsMade was → IsMade is → IsMade typed
    → new ≡ old ++ texts_html head was_head is_head was is typed → IsMade new
made_texts old new head was_head is_head was is typed is_old is_was is_is is_typed e =
    record {
      html = joined_html is_old.html (piece_texts head was_head is_head is_was.html is_is.html is_typed.html);
      is = cc;
    }

pub made_typed : (old new text : List ℕ)
    → IsMade old → IsMade text
    → new ≡ old ++ typed_html text → IsMade new
made_typed old new text is_old is_text e =
    record {
      html = joined_html is_old.html (piece_typed is_text.html);
      is = cc;
    }

pub made_upload : (old new name end : List ℕ)
    → IsMade old
    → new ≡ old ++ upload_html name end → IsMade new
made_upload old new name end is_old e =
    record {
      html = joined_html is_old.html (piece_upload name end);
      is = cc;
    }

pub made_uploads : (old new count refused items : List ℕ)
    → IsMade old → IsMade items
    → new ≡ old ++ uploads_html count refused items → IsMade new
made_uploads old new count refused items is_old is_items e =
    record {
      html = joined_html is_old.html (piece_uploads count refused is_items.html);
      is = cc;
    }

pub made_value : (old new value : List ℕ)
    → IsMade old
    → new ≡ old ++ value_html value → IsMade new
made_value old new value is_old e =
    record {
      html = joined_html is_old.html (piece_value value);
      is = cc;
    }

pub made_visit : (old new client visit state address opener told conflict decide : List ℕ)
    → IsMade old → IsMade opener → IsMade told → IsMade conflict → IsMade decide
    → new ≡ old ++ visit_html client visit state address opener told conflict decide → IsMade new
made_visit old new client visit state address opener told conflict decide is_old is_opener is_told is_conflict is_decide e =
    record {
      html = joined_html is_old.html (piece_visit client visit state address is_opener.html is_told.html is_conflict.html is_decide.html);
      is = cc;
    }

pub made_visit_events : (old new start events around : List ℕ)
    → IsMade old → IsMade events → IsMade around
    → new ≡ old ++ visit_events_html start events around → IsMade new
made_visit_events old new start events around is_old is_events is_around e =
    record {
      html = joined_html is_old.html (piece_visit_events start is_events.html is_around.html);
      is = cc;
    }

pub made_visit_pages : (old new recorded repaired : List ℕ)
    → IsMade old → IsMade recorded → IsMade repaired
    → new ≡ old ++ visit_pages_html recorded repaired → IsMade new
made_visit_pages old new recorded repaired is_old is_recorded is_repaired e =
    record {
      html = joined_html is_old.html (piece_visit_pages is_recorded.html is_repaired.html);
      is = cc;
    }

pub made_visit_requests : (old new stand asked_head before asked : List ℕ)
    → IsMade old → IsMade before → IsMade asked
    → new ≡ old ++ visit_requests_html stand asked_head before asked → IsMade new
made_visit_requests old new stand asked_head before asked is_old is_before is_asked e =
    record {
      html = joined_html is_old.html (piece_visit_requests stand asked_head is_before.html is_asked.html);
      is = cc;
    }
