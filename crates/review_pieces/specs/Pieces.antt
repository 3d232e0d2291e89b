-- What a piece of `review/pieces/` is with its slots filled. `tools/pieces` writes this file.
use Rattle.std.specs.Prelude.{ℕ, List, [], ◌∷◌, codes}
use Rattle.std.specs.List.{concat}
use Rattle.markup.specs.Escaping.{escaped}

unfoldable pub along_html : List ℕ → List ℕ → List ℕ
along_html count items = concat (
    codes "<p>It takes along " ∷ escaped count ∷ codes " that it led to:</p>\n<ul class=\"along\">\n" ∷ items
    ∷ codes "</ul>\n" ∷ [])

unfoldable pub along_more_html : List ℕ → List ℕ → List ℕ
along_more_html client count = concat (
    codes "<li><a href=\"/client?c=" ∷ escaped client ∷ codes "#visits\">and " ∷ escaped count
    ∷ codes " more</a></li>\n" ∷ [])

unfoldable pub along_none_html : List ℕ
along_none_html = concat (
    codes "<p>No other visit goes with it.</p>\n" ∷ [])

unfoldable pub along_one_html : List ℕ → List ℕ → List ℕ → List ℕ → List ℕ
along_one_html client visit state address = concat (
    codes "<li><a href=\"/visit?c=" ∷ escaped client ∷ codes "&amp;v=" ∷ escaped visit ∷ codes "\">Visit "
    ∷ escaped visit ∷ codes "</a> <span class=\"state " ∷ escaped state ∷ codes "\">" ∷ escaped state
    ∷ codes "</span> <code>" ∷ escaped address ∷ codes "</code></li>\n" ∷ [])

unfoldable pub around_html : List ℕ → List ℕ
around_html links = concat (
    codes "<nav class=\"pages\" aria-label=\"Visits that wait\">" ∷ links ∷ codes "</nav>\n" ∷ [])

unfoldable pub branch_html : List ℕ → List ℕ → List ℕ → List ℕ → List ℕ → List ℕ → List ℕ → List ℕ → List ℕ
branch_html client visit state address conflict opened here levels = concat (
    codes "<li" ∷ here ∷ codes ">" ∷ levels ∷ codes "<span class=\"what\"><a href=\"/visit?c=" ∷ escaped client
    ∷ codes "&amp;v=" ∷ escaped visit ∷ codes "\">" ∷ escaped visit ∷ codes "</a><span class=\"state " ∷ escaped state
    ∷ codes "\">" ∷ escaped state ∷ codes "</span><code>" ∷ escaped address ∷ codes "</code><span>" ∷ escaped conflict
    ∷ codes "</span><span class=\"hidden\">" ∷ escaped opened ∷ codes "</span></span></li>\n" ∷ [])

unfoldable pub client_html : List ℕ → List ℕ → List ℕ → List ℕ → List ℕ → List ℕ → List ℕ
client_html client upload counts next items pages = concat (
    codes "<h1>" ∷ escaped client ∷ codes "</h1>\n<dl>\n" ∷ upload ∷ counts ∷ codes "</dl>\n" ∷ next
    ∷ codes "\n<h2 id=\"visits\">Visits, each below the one that opened it</h2>\n<ol class=\"tree\">\n" ∷ items
    ∷ codes "</ol>\n" ∷ pages ∷ codes "\n" ∷ [])

unfoldable pub client_counts_html : List ℕ → List ℕ → List ℕ → List ℕ → List ℕ → List ℕ
client_counts_html waiting kept cancelled done untouched = concat (
    codes "<dt>Visits</dt><dd>" ∷ escaped waiting ∷ codes " waiting, " ∷ escaped kept ∷ codes " kept, "
    ∷ escaped cancelled ∷ codes " cancelled, " ∷ escaped done ∷ codes " done, " ∷ escaped untouched
    ∷ codes " untouched</dd>\n" ∷ [])

unfoldable pub client_upload_html : List ℕ → List ℕ → List ℕ → List ℕ → List ℕ
client_upload_html end taken cost lost = concat (
    codes "<dt>Last upload's end</dt><dd>" ∷ escaped end ∷ codes ", " ∷ escaped taken
    ∷ codes " messages taken</dd>\n<dt>Log</dt><dd>" ∷ escaped cost ∷ codes " bytes, " ∷ escaped lost
    ∷ codes " visits lost for want of room</dd>\n" ∷ [])

unfoldable pub closed_html : List ℕ
closed_html = concat (
    codes "<div class=\"note\" role=\"alert\"><p>The site's file is closed: a decision couldn't be kept. "
    ∷ codes "What is shown is what it said before. End this program, look at the end of the file, and start it "
    ∷ codes "again.</p></div>\n" ∷ [])

unfoldable pub conflict_html : List ℕ → List ℕ → List ℕ → List ℕ → List ℕ
conflict_html code at sentence todo = concat (
    codes "<p><strong>" ∷ escaped code ∷ codes " at event " ∷ escaped at ∷ codes ".</strong> " ∷ escaped sentence
    ∷ codes "</p>\n<p>What to do: " ∷ escaped todo ∷ codes "</p>\n" ∷ [])

unfoldable pub decide_html : List ℕ → List ℕ → List ℕ → List ℕ → List ℕ → List ℕ → List ℕ → List ℕ
decide_html keeps client visit token voids with along = concat (
    codes "<section class=\"decide\" aria-label=\"Decide\">\n<div class=\"split\">\n<div>\n<h3>Keep</h3>\n<p>"
    ∷ codes "The visit stands as it is reported: " ∷ escaped keeps
    ∷ codes " before its conflict. What came behind that isn't made up for: do it by hand where it is wanted. "
    ∷ codes "Other visits don't change.</p>\n<form method=\"post\" action=\"/decide\" data-client=\"" ∷ escaped client
    ∷ codes "\" data-visit=\"" ∷ escaped visit ∷ codes "\">\n<input type=\"hidden\" name=\"token\" value=\""
    ∷ escaped token ∷ codes "\"><input type=\"hidden\" name=\"client\" value=\"" ∷ escaped client
    ∷ codes "\"><input type=\"hidden\" name=\"visit\" value=\"" ∷ escaped visit
    ∷ codes "\">\n<button name=\"keep\" value=\"1\">Keep visit " ∷ escaped visit
    ∷ codes "</button>\n</form>\n</div>\n<div>\n<h3>Cancel</h3>\n<p>The visit is void: it has no requests "
    ∷ codes "then, not even " ∷ escaped voids ∷ codes ".</p>\n" ∷ along
    ∷ codes "\n<form method=\"post\" action=\"/decide\" data-client=\"" ∷ escaped client ∷ codes "\" data-visit=\""
    ∷ escaped visit ∷ codes "\">\n<input type=\"hidden\" name=\"token\" value=\"" ∷ escaped token
    ∷ codes "\"><input type=\"hidden\" name=\"client\" value=\"" ∷ escaped client
    ∷ codes "\"><input type=\"hidden\" name=\"visit\" value=\"" ∷ escaped visit
    ∷ codes "\">\n<button name=\"cancel\" value=\"1\">Cancel visit " ∷ escaped visit ∷ escaped with
    ∷ codes "</button>\n</form>\n</div>\n</div>\n</section>\n" ∷ [])

unfoldable pub drawn_html : List ℕ → List ℕ → List ℕ
drawn_html title tree = concat (
    codes "<!doctype html>\n<html lang=\"en\">\n<head><meta charset=\"utf-8\"><title>" ∷ escaped title
    ∷ codes "</title><link rel=\"stylesheet\" href=\"/page.css\"></head>\n<body tabindex=\"0\">\n" ∷ tree
    ∷ codes "\n</body>\n</html>\n" ∷ [])

unfoldable pub event_html : List ℕ → List ℕ → List ℕ → List ℕ → List ℕ → List ℕ
event_html what target then now pressed = concat (
    codes "<h2>The event</h2>\n<dl>\n<dt>What was done</dt><dd>" ∷ escaped what
    ∷ codes "</dd>\n<dt>Where</dt><dd><code>" ∷ escaped target ∷ codes "</code></dd>\n" ∷ pressed
    ∷ codes "<dt>On the user's page</dt><dd>" ∷ escaped then ∷ codes "</dd>\n<dt>On the page now</dt><dd>" ∷ escaped now
    ∷ codes "</dd>\n</dl>\n" ∷ [])

unfoldable pub event_here_html : List ℕ
event_here_html = concat (
    codes " class=\"here\" aria-current=\"step\"" ∷ [])

unfoldable pub event_line_html : List ℕ → List ℕ → List ℕ → List ℕ → List ℕ
event_line_html what target here value = concat (
    codes "<li" ∷ here ∷ codes ">" ∷ escaped what ∷ codes " <code>" ∷ escaped target ∷ codes "</code>" ∷ value
    ∷ codes "</li>\n" ∷ [])

unfoldable pub figure_html : List ℕ → List ℕ → List ℕ → List ℕ → List ℕ → List ℕ
figure_html head client visit of caption = concat (
    codes "<figure>\n<h3>" ∷ escaped head ∷ codes "</h3>\n<iframe sandbox title=\"" ∷ escaped head
    ∷ codes "\" src=\"/page?c=" ∷ escaped client ∷ codes "&amp;v=" ∷ escaped visit ∷ codes "&amp;of=" ∷ escaped of
    ∷ codes "#target\"></iframe>\n<figcaption class=\"soft\">" ∷ escaped caption ∷ codes "</figcaption>\n</figure>\n"
    ∷ [])

unfoldable pub foot_html : List ℕ
foot_html = concat (
    codes "</main>\n</body>\n</html>\n" ∷ [])

unfoldable pub found_html : List ℕ → List ℕ → List ℕ → List ℕ → List ℕ → List ℕ
found_html client visit state address conflict = concat (
    codes "<li><span class=\"what\"><a href=\"/visit?c=" ∷ escaped client ∷ codes "&amp;v=" ∷ escaped visit
    ∷ codes "\">" ∷ escaped client ∷ codes ", visit " ∷ escaped visit ∷ codes "</a><span class=\"state " ∷ escaped state
    ∷ codes "\">" ∷ escaped state ∷ codes "</span><code>" ∷ escaped address ∷ codes "</code><span>" ∷ escaped conflict
    ∷ codes "</span></span></li>\n" ∷ [])

unfoldable pub found_client_html : List ℕ → List ℕ
found_client_html client = concat (
    codes "<li><span class=\"what\"><a href=\"/client?c=" ∷ escaped client ∷ codes "\">" ∷ escaped client
    ∷ codes "</a></span></li>\n" ∷ [])

unfoldable pub found_clients_html : List ℕ → List ℕ
found_clients_html items = concat (
    codes "<ul class=\"tree\">\n" ∷ items ∷ codes "</ul>\n" ∷ [])

unfoldable pub front_html : List ℕ → List ℕ → List ℕ → List ℕ → List ℕ → List ℕ → List ℕ → List ℕ
front_html client visit code at address sentence behind = concat (
    codes "<li>\n<p><a href=\"/visit?c=" ∷ escaped client ∷ codes "&amp;v=" ∷ escaped visit ∷ codes "\"><strong>"
    ∷ escaped client ∷ codes "</strong>, visit " ∷ escaped visit ∷ codes "</a>: <span class=\"state waiting\">"
    ∷ escaped code ∷ codes "</span> at event " ∷ escaped at ∷ codes " <code>" ∷ escaped address
    ∷ codes "</code></p>\n<p class=\"soft\">" ∷ escaped sentence ∷ codes " " ∷ escaped behind ∷ codes "</p>\n</li>\n"
    ∷ [])

unfoldable pub fronts_html : List ℕ → List ℕ → List ℕ
fronts_html items pages = concat (
    codes "<p>Each client's visits are decided in their order: here is the first of each that waits. Before "
    ∷ codes "you decide, look whether the page in the site's file can be made to fit.</p>\n<ol "
    ∷ codes "class=\"fronts\">\n" ∷ items ∷ codes "</ol>\n" ∷ pages ∷ codes "\n" ∷ [])

unfoldable pub head_html : List ℕ → List ℕ → List ℕ → List ℕ → List ℕ → List ℕ
head_html title waiting decided query at_overview = concat (
    codes "<!doctype html>\n<html lang=\"en\">\n<head>\n<meta charset=\"utf-8\">\n<meta name=\"viewport\" "
    ∷ codes "content=\"width=device-width, initial-scale=1\">\n<title>" ∷ escaped title
    ∷ codes "</title>\n<link rel=\"stylesheet\" href=\"/review.css\">\n<script src=\"/review.js\" defer>"
    ∷ codes "</script>\n</head>\n<body>\n<a class=\"skip\" href=\"#main\">To the content</a>\n<header "
    ∷ codes "class=\"top\">\n<nav aria-label=\"Review\">\n<a href=\"/\"" ∷ at_overview
    ∷ codes ">Overview</a>\n<a href=\"/report\">Report</a>\n<span class=\"soft\">" ∷ escaped waiting
    ∷ codes " waiting, " ∷ escaped decided
    ∷ codes " decided</span>\n<form role=\"search\" action=\"/search\">\n<label for=\"q\">Client, address or "
    ∷ codes "code</label>\n<input id=\"q\" name=\"q\" type=\"search\" value=\"" ∷ escaped query
    ∷ codes "\">\n<button>Search</button>\n</form>\n</nav>\n</header>\n<main id=\"main\">\n<p class=\"note\" "
    ∷ codes "id=\"meanwhile\" data-decided=\"" ∷ escaped decided
    ∷ codes "\" role=\"status\" hidden>Another browser has decided something since. <a href=\"\">Load this "
    ∷ codes "page anew</a></p>\n" ∷ [])

unfoldable pub level_html : List ℕ
level_html = concat (
    codes "<span class=\"level\"></span>" ∷ [])

unfoldable pub more_html : List ℕ → List ℕ
more_html count = concat (
    codes "<li class=\"soft\">and " ∷ escaped count ∷ codes " more</li>\n" ∷ [])

unfoldable pub next_html : List ℕ → List ℕ → List ℕ
next_html client visit = concat (
    codes "<p><a href=\"/visit?c=" ∷ escaped client ∷ codes "&amp;v=" ∷ escaped visit ∷ codes "\">Decide visit "
    ∷ escaped visit ∷ codes "</a>, the first that waits.</p>\n" ∷ [])

unfoldable pub no_fronts_html : List ℕ
no_fronts_html = concat (
    codes "<p>Nothing waits. The <a href=\"/report\">report</a> has no open conflict.</p>\n" ∷ [])

unfoldable pub no_page_html : List ℕ → List ℕ → List ℕ
no_page_html head caption = concat (
    codes "<figure>\n<h3>" ∷ escaped head ∷ codes "</h3>\n<p class=\"note\">" ∷ escaped caption
    ∷ codes "</p>\n</figure>\n" ∷ [])

unfoldable pub not_front_html : List ℕ → List ℕ → List ℕ
not_front_html front client = concat (
    codes "<p class=\"note\">Visit " ∷ escaped front
    ∷ codes " of this client is to be decided first: <a href=\"/visit?c=" ∷ escaped client ∷ codes "&amp;v="
    ∷ escaped front ∷ codes "\">go there</a>.</p>\n" ∷ [])

unfoldable pub note_html : List ℕ → List ℕ → List ℕ
note_html role text = concat (
    codes "<div class=\"note\" role=\"" ∷ escaped role ∷ codes "\"><p>" ∷ escaped text ∷ codes "</p></div>\n" ∷ [])

unfoldable pub opener_html : List ℕ → List ℕ → List ℕ → List ℕ
opener_html client parent from = concat (
    codes ", opened by <a href=\"/visit?c=" ∷ escaped client ∷ codes "&amp;v=" ∷ escaped parent ∷ codes "\">visit "
    ∷ escaped parent ∷ codes "</a>, its request " ∷ escaped from ∷ codes "\n" ∷ [])

unfoldable pub overview_html : List ℕ → List ℕ → List ℕ → List ℕ → List ℕ → List ℕ
overview_html notes fronts rows pages uploads = concat (
    codes "<h1>What waits for a decision</h1>\n" ∷ notes ∷ codes "\n" ∷ fronts
    ∷ codes "\n<h2 id=\"clients\">Clients</h2>\n<div class=\"wide\">\n<table class=\"stack\">\n<thead><tr><th "
    ∷ codes "scope=\"col\">Client</th><th scope=\"col\">Upload's end</th><th scope=\"col\" class=\"number\">"
    ∷ codes "Waiting</th><th scope=\"col\" class=\"number\">Kept</th><th scope=\"col\" class=\"number\">"
    ∷ codes "Cancelled</th><th scope=\"col\" class=\"number\">Done</th><th scope=\"col\" class=\"number\">"
    ∷ codes "Untouched</th><th scope=\"col\" class=\"number\">Lost</th></tr></thead>\n<tbody>\n" ∷ rows
    ∷ codes "</tbody>\n</table>\n</div>\n" ∷ pages ∷ codes "\n" ∷ uploads ∷ codes "\n" ∷ [])

unfoldable pub page_here_html : List ℕ → List ℕ
page_here_html text = concat (
    codes "<strong aria-current=\"page\">" ∷ escaped text ∷ codes "</strong>\n" ∷ [])

unfoldable pub page_link_html : List ℕ → List ℕ → List ℕ
page_link_html href text = concat (
    codes "<a href=\"" ∷ escaped href ∷ codes "\">" ∷ escaped text ∷ codes "</a>\n" ∷ [])

unfoldable pub pages_html : List ℕ → List ℕ → List ℕ
pages_html label links = concat (
    codes "<nav class=\"pages\" aria-label=\"" ∷ escaped label ∷ codes "\">" ∷ links ∷ codes "</nav>\n" ∷ [])

unfoldable pub pairs_html : List ℕ → List ℕ
pairs_html pairs = concat (
    codes "<br><code>" ∷ escaped pairs ∷ codes "</code>\n" ∷ [])

unfoldable pub part_gone_html : List ℕ → List ℕ
part_gone_html text = concat (
    codes "<del>" ∷ escaped text ∷ codes "</del>" ∷ [])

unfoldable pub part_new_html : List ℕ → List ℕ
part_new_html text = concat (
    codes "<ins>" ∷ escaped text ∷ codes "</ins>" ∷ [])

unfoldable pub part_same_html : List ℕ → List ℕ
part_same_html text = concat (
    escaped text ∷ [])

unfoldable pub pressed_html : List ℕ → List ℕ
pressed_html by = concat (
    codes "<dt>By</dt><dd><code>" ∷ escaped by ∷ codes "</code></dd>\n" ∷ [])

unfoldable pub refused_html : List ℕ → List ℕ → List ℕ → List ℕ → List ℕ → List ℕ
refused_html head answer text href link = concat (
    codes "<h1>" ∷ escaped head ∷ codes "</h1>\n<div class=\"note\" role=\"alert\"><p><strong>" ∷ escaped answer
    ∷ codes "</strong> " ∷ escaped text ∷ codes "</p></div>\n<p><a href=\"" ∷ escaped href ∷ codes "\">" ∷ escaped link
    ∷ codes "</a></p>\n" ∷ [])

unfoldable pub request_html : List ℕ → List ℕ → List ℕ → List ℕ
request_html method address pairs = concat (
    codes "<li>" ∷ escaped method ∷ codes " <code>" ∷ escaped address ∷ codes "</code>" ∷ pairs ∷ codes "</li>\n" ∷ [])

unfoldable pub requests_html : List ℕ → List ℕ
requests_html items = concat (
    codes "<ol class=\"requests\">\n" ∷ items ∷ codes "</ol>\n" ∷ [])

unfoldable pub requests_none_html : List ℕ → List ℕ
requests_none_html why = concat (
    codes "<p class=\"soft\">" ∷ escaped why ∷ codes "</p>\n" ∷ [])

unfoldable pub row_html : List ℕ → List ℕ → List ℕ → List ℕ → List ℕ → List ℕ → List ℕ → List ℕ → List ℕ
row_html client end waiting kept cancelled done untouched lost = concat (
    codes "<tr><th scope=\"row\"><a href=\"/client?c=" ∷ escaped client ∷ codes "\">" ∷ escaped client
    ∷ codes "</a></th><td data-head=\"Upload's end\">" ∷ escaped end
    ∷ codes "</td><td class=\"number\" data-head=\"Waiting\">" ∷ escaped waiting
    ∷ codes "</td><td class=\"number\" data-head=\"Kept\">" ∷ escaped kept
    ∷ codes "</td><td class=\"number\" data-head=\"Cancelled\">" ∷ escaped cancelled
    ∷ codes "</td><td class=\"number\" data-head=\"Done\">" ∷ escaped done
    ∷ codes "</td><td class=\"number\" data-head=\"Untouched\">" ∷ escaped untouched
    ∷ codes "</td><td class=\"number\" data-head=\"Lost\">" ∷ escaped lost ∷ codes "</td></tr>\n" ∷ [])

unfoldable pub search_html : List ℕ → List ℕ → List ℕ → List ℕ → List ℕ → List ℕ
search_html count query clients items pages = concat (
    codes "<h1>" ∷ escaped count ∷ codes " found</h1>\n<p class=\"soft\">Looked for &ldquo;" ∷ escaped query
    ∷ codes "&rdquo; in names of clients, in addresses of visits, and in codes.</p>\n" ∷ clients
    ∷ codes "\n<ol class=\"tree\">\n" ∷ items ∷ codes "</ol>\n" ∷ pages ∷ codes "\n" ∷ [])

unfoldable pub text_html : List ℕ → List ℕ
text_html parts = concat (
    codes "<div class=\"text\" tabindex=\"0\">" ∷ parts ∷ codes "</div>\n" ∷ [])

unfoldable pub text_empty_html : List ℕ → List ℕ
text_empty_html why = concat (
    codes "<div class=\"text empty\">" ∷ escaped why ∷ codes "</div>\n" ∷ [])

unfoldable pub texts_html : List ℕ → List ℕ → List ℕ → List ℕ → List ℕ → List ℕ → List ℕ
texts_html head was_head is_head was is typed = concat (
    codes "<h2>" ∷ escaped head ∷ codes "</h2>\n<div class=\"split\">\n<div><h3>" ∷ escaped was_head ∷ codes "</h3>"
    ∷ was ∷ codes "</div>\n<div><h3>" ∷ escaped is_head ∷ codes "</h3>" ∷ is ∷ codes "</div>\n</div>\n" ∷ typed
    ∷ codes "\n" ∷ [])

unfoldable pub typed_html : List ℕ → List ℕ
typed_html text = concat (
    codes "<h3>What was typed</h3>\n" ∷ text ∷ codes "\n" ∷ [])

unfoldable pub upload_html : List ℕ → List ℕ → List ℕ
upload_html name end = concat (
    codes "<li><code>" ∷ escaped name ∷ codes "</code> " ∷ escaped end ∷ codes "</li>\n" ∷ [])

unfoldable pub uploads_html : List ℕ → List ℕ → List ℕ → List ℕ
uploads_html count refused items = concat (
    codes "<h2>Uploads</h2>\n<details><summary>" ∷ escaped count ∷ codes " in all, " ∷ escaped refused
    ∷ codes " of which couldn't be taken</summary>\n<ul>\n" ∷ items ∷ codes "</ul>\n</details>\n" ∷ [])

unfoldable pub value_html : List ℕ → List ℕ
value_html value = concat (
    codes ": <span class=\"soft\">" ∷ escaped value ∷ codes "</span>\n" ∷ [])

unfoldable pub visit_html : List ℕ → List ℕ → List ℕ → List ℕ → List ℕ → List ℕ → List ℕ → List ℕ → List ℕ
visit_html client visit state address opener told conflict decide = concat (
    codes "<p><a href=\"/client?c=" ∷ escaped client ∷ codes "\">" ∷ escaped client ∷ codes "</a>" ∷ opener
    ∷ codes "</p>\n<h1>Visit " ∷ escaped visit ∷ codes " <span class=\"state " ∷ escaped state ∷ codes "\">"
    ∷ escaped state ∷ codes "</span></h1>\n<p><code>" ∷ escaped address ∷ codes "</code></p>\n" ∷ told ∷ codes "\n"
    ∷ conflict ∷ codes "\n" ∷ decide ∷ codes "\n" ∷ [])

unfoldable pub visit_events_html : List ℕ → List ℕ → List ℕ → List ℕ
visit_events_html start events around = concat (
    codes "<h2>Events</h2>\n<ol class=\"events\" start=\"" ∷ escaped start ∷ codes "\">\n" ∷ events ∷ codes "</ol>\n"
    ∷ around ∷ codes "\n" ∷ [])

unfoldable pub visit_pages_html : List ℕ → List ℕ → List ℕ
visit_pages_html recorded repaired = concat (
    codes "<h2>The page, as the user saw it and as it is now</h2>\n<div class=\"split\">\n" ∷ recorded ∷ codes "\n"
    ∷ repaired ∷ codes "\n</div>\n" ∷ [])

unfoldable pub visit_requests_html : List ℕ → List ℕ → List ℕ → List ℕ → List ℕ
visit_requests_html stand asked_head before asked = concat (
    codes "<h2>Requests</h2>\n<div class=\"split\">\n<div><h3>" ∷ escaped stand ∷ codes "</h3>" ∷ before
    ∷ codes "</div>\n<div><h3>" ∷ escaped asked_head ∷ codes "</h3>" ∷ asked ∷ codes "</div>\n</div>\n" ∷ [])
