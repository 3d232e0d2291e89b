-- The views, by their addresses: this project's own rule.
use Rattle.std.specs.Prelude.{ℕ, List, [], codes, bytes_eq, if◌then◌else◌, Option, Some, None, unwrap_or, option_map, option_and_then}
use Rattle.review_requests.specs.Form.{word_in, client_word, visit_word, visit_word_if_any, begin_word}
use Rattle.review_requests.specs.declared.target.Address.{Address}
use Rattle.review_requests.specs.declared.target.Address.TheVariants as at
use Rattle.review_requests.specs.declared.target.Side.{Side}
use Rattle.review_requests.specs.declared.target.Side.TheVariants.{Recorded, Repaired}
use Rattle.review_requests.specs.declared.target.View.{View}
use Rattle.review_requests.specs.declared.target.View.TheVariants.{Overview, Visits, Visit, Drawing, Search, Report, State, PageStyle, DrawingStyle, Script}

-- what is read there
abbrev pub address_at : List ℕ → Option Address
address_at path =
    if bytes_eq path (codes "/") then Some at.Overview else (
    if bytes_eq path (codes "/client") then Some at.Visits else (
    if bytes_eq path (codes "/visit") then Some at.Visit else (
    if bytes_eq path (codes "/page") then Some at.Drawing else (
    if bytes_eq path (codes "/search") then Some at.Search else (
    if bytes_eq path (codes "/report") then Some at.Report else (
    if bytes_eq path (codes "/state") then Some at.State else (
    if bytes_eq path (codes "/review.css") then Some at.PageStyle else (
    if bytes_eq path (codes "/page.css") then Some at.DrawingStyle else (
    if bytes_eq path (codes "/review.js") then Some at.Script else None)))))))))

-- ---- what a query says of each

abbrev pub asks_overview : List ℕ → Option View
asks_overview query =
    option_and_then (λ from. option_map (Overview from) (begin_word (codes "clients") query))
    (begin_word (codes "from") query)

abbrev pub asks_visits : List ℕ → Option View
asks_visits query =
    option_and_then (λ client. option_map (Visits client) (begin_word (codes "from") query))
    (client_word (codes "c") query)

abbrev pub asks_visit : List ℕ → Option View
asks_visit query = option_and_then (λ client.
    option_and_then (λ visit. option_map (Visit client visit) (visit_word_if_any (codes "told") query))
    (visit_word (codes "v") query))
    (client_word (codes "c") query)

abbrev pub side_named : List ℕ → Option Side
side_named word = if bytes_eq word (codes "recorded") then Some Recorded else (
    if bytes_eq word (codes "repaired") then Some Repaired else None)

abbrev pub side_word : List ℕ → Option Side
side_word query = option_and_then side_named (word_in (codes "of") query)

abbrev pub asks_drawing : List ℕ → Option View
asks_drawing query = option_and_then (λ client.
    option_and_then (λ visit. option_map (Drawing client visit) (side_word query)) (visit_word (codes "v") query))
    (client_word (codes "c") query)

-- the text is empty where none is said
abbrev pub asks_search : List ℕ → Option View
asks_search query =
    option_map (Search (unwrap_or (word_in (codes "q") query) [])) (begin_word (codes "from") query)

-- the view, where the query says all that it needs
abbrev pub view_at : Address → List ℕ → Option View
view_at at.Overview query = asks_overview query
view_at at.Visits query = asks_visits query
view_at at.Visit query = asks_visit query
view_at at.Drawing query = asks_drawing query
view_at at.Search query = asks_search query
view_at at.Report query = Some Report
view_at at.State query = Some State
view_at at.PageStyle query = Some PageStyle
view_at at.DrawingStyle query = Some DrawingStyle
view_at at.Script query = Some Script
