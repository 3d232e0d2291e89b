-- What is shown, by what stands in memory: this project's own rule.
use Rattle.std.specs.Prelude.{ℕ, List, [], ◌∷◌, ◌++◌, codes, decimal, count_by, Bool, true, false, is_some, option_and_then, if◌then◌else◌, ◌⊎◌}
use Rattle.http_server.specs.Response.{IsResponse}
use Rattle.http_server.specs.declared.response.Response.{Response}
use Rattle.conflict_desk.specs.Desk.{book_of}
use Rattle.warp_run.specs.Report.{report_with}
use Rattle.warp_run.specs.declared.repaired.Repaired.{Repaired}
use Rattle.replay_folder.specs.FolderReport.{upload_lines}
use Rattle.replay_folder.specs.declared.replayed.Replayed.{Replayed}
use Rattle.review_requests.specs.declared.target.View.{View}
use Rattle.review_requests.specs.declared.target.View.TheVariants.{Overview, Visits, Visit, Drawing, Search, Report, State, PageStyle, DrawingStyle, Script}
use Rattle.review_pieces.specs.declared.files.TheConstants.{REVIEW_CSS, PAGE_CSS, REVIEW_JS}
use Rattle.review_lists.specs.ClientView.{summary_named}
use Rattle.review_lists.specs.Standings.{was_made}
use Rattle.review_visits.specs.Visit.{is_on_desk}
use Rattle.review_service.specs.Fields.{IsHtmlPage, IsDrawing, typed_fields, drawing_style_fields}

-- the client uploaded something, and the desk has it
abbrev pub has_client : Repaired → List ℕ → Bool
has_client repaired client =
    is_some (option_and_then (λ summary. book_of client repaired.desk) (summary_named client repaired.clients))

-- a page where it is there, and else one that says 404
abbrev pub IsPageWhere : Bool → Response → Type 0
IsPageWhere found response = IsHtmlPage (if found then 200 else 404) response

abbrev pub IsDrawingWhere : Bool → Response → Type 0
IsDrawingWhere true response = IsDrawing response
IsDrawingWhere false response = IsHtmlPage 404 response

-- the text that `replay` writes
abbrev pub report_of : {R : Type 0} → Replayed R → List ℕ
report_of replayed = report_with (upload_lines replayed.told.named replayed.told.ends) replayed.repaired

-- A report that is too long is told by a page.
abbrev pub ShowsReport : {R : Type 0} → Replayed R → Response → Type 0
ShowsReport replayed response =
    IsResponse 200 (typed_fields (codes "text/plain; charset=utf-8")) (report_of replayed) response
    ⊎ IsHtmlPage 503 response

-- how many decisions were made, and a line feed
abbrev pub state_text : Repaired → List ℕ
state_text repaired = decimal (count_by was_made repaired.decided) ++ 10 ∷ []

abbrev pub ShowsView : {R : Type 0} → Replayed R → View → Response → Type 0
ShowsView replayed (Overview from clients) response = IsHtmlPage 200 response
ShowsView replayed (Visits client from) response = IsPageWhere (has_client replayed.repaired client) response
ShowsView replayed (Visit client visit told) response = IsPageWhere (is_on_desk replayed client visit) response
ShowsView replayed (Drawing client visit side) response = IsDrawingWhere (is_on_desk replayed client visit) response
ShowsView replayed (Search text from) response = IsHtmlPage 200 response
ShowsView replayed Report response = ShowsReport replayed response
ShowsView replayed State response =
    IsResponse 200 (typed_fields (codes "text/plain; charset=utf-8")) (state_text replayed.repaired) response
ShowsView replayed PageStyle response =
    IsResponse 200 (typed_fields (codes "text/css; charset=utf-8")) REVIEW_CSS.now response
ShowsView replayed DrawingStyle response = IsResponse 200 drawing_style_fields PAGE_CSS.now response
ShowsView replayed Script response =
    IsResponse 200 (typed_fields (codes "text/javascript; charset=utf-8")) REVIEW_JS.now response
