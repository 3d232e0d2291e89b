-- What a request asks for, judged by itself alone: this project's own rule.
use Rattle.std.specs.Prelude.{ℕ, ◌+◌, List, [], length, take, drop, map, ◌++◌, codes, Bool, true, false, not, ◌&&◌, ◌||◌, ◌==◌, nat_le, nat_lt, bytes_eq, if◌then◌else◌, Option, Some, None, option_and_then}
use Rattle.std.specs.Char.{to_ascii_lowercase}
use Rattle.std.specs.List.{list_all, filter_map, position_or_len, slice_get, slice_split, before_first}
use Rattle.std.specs.Option.{option_map_or}
use Rattle.std.specs.Str.{trim}
use Rattle.byte_streams.specs.CompleteLines.{complete_lines}
use Rattle.byte_streams.specs.Cutting.{is_line_feed}
use Rattle.http.specs.Request.{head_of, body_of}
use Rattle.http.specs.declared.request.Request.{Request}
use Rattle.http_header.specs.FieldValue.{FieldValue, is_visible_text}
use Rattle.http_header.specs.HeaderMap.{get}
use Rattle.http_uri.specs.Uri.{uri_path, uri_query}
use Rattle.upload_reader.specs.Client.{is_client}
use Rattle.upload_reader.specs.Front.{bytes_of_lines}
use Rattle.collect_http.specs.declared.verdict.Resource.{Resource}
use Rattle.collect_http.specs.declared.verdict.Resource.TheVariants.{Upload, Script, Health}
use Rattle.collect_http.specs.declared.verdict.Plain.TheVariants.{NoPath, NoMethod, Preflight, Foreign, Gives, Nameless, BadType, TooLong}
use Rattle.collect_http.specs.declared.verdict.Verdict.{Verdict}
use Rattle.collect_http.specs.declared.verdict.Verdict.TheVariants.{Says, Asks, Takes}

-- ---- fields

-- the first value of a field
abbrev pub field_of : Request (List ℕ) → List ℕ → Option FieldValue
field_of request name = get (head_of request).headers name

-- that value, where it is visible text
abbrev pub text_of : Request (List ℕ) → List ℕ → Option (List ℕ)
text_of request name =
    option_and_then (λ value. if is_visible_text value.bytes then Some value.bytes else None) (field_of request name)

-- what stands behind that front
abbrev pub behind_front : List ℕ → List ℕ → Option (List ℕ)
behind_front front text = if bytes_eq (take (length front) text) front then Some (drop (length front) text) else None

abbrev pub first_given : {X Y : Type 0} → (X → Option Y) → List X → Option Y
first_given f xs = slice_get (filter_map f xs) 0

-- ---- the client

abbrev pub is_hex : ℕ → Bool
is_hex c = (nat_le 48 c && nat_le c 57) || (nat_le 97 c && nat_le c 102)

-- as the server gives them: 32 of `[0-9a-f]`
abbrev pub is_given : List ℕ → Bool
is_given name = length name == 32 && list_all is_hex name

-- the name in a part of a cookie field
abbrev pub name_in_part : List ℕ → Option (List ℕ)
name_in_part part =
    option_and_then (λ name. if is_given name then Some name else None) (behind_front (codes "yugdemor=") (trim part))

-- the client that a cookie field names, by the first of its parts that has such a name
abbrev pub client_in_cookie : List ℕ → Option (List ℕ)
client_in_cookie field = first_given name_in_part (slice_split (λ c. c == 59) field)

abbrev pub client_of : Request (List ℕ) → Option (List ℕ)
client_of request = option_and_then client_in_cookie (text_of request (codes "cookie"))

-- ---- the page

-- the host's own, by the `Host` field
abbrev pub is_own : Request (List ℕ) → List ℕ → Bool
is_own request page = option_map_or
    (λ host. bytes_eq page (codes "http://" ++ host) || bytes_eq page (codes "https://" ++ host))
    (text_of request (codes "host")) false

-- that other origin, if there is one
abbrev pub is_other : Option (List ℕ) → List ℕ → Bool
is_other origin page = option_map_or (λ other. bytes_eq page other) origin false

-- the page is of that other origin
abbrev pub is_of : Request (List ℕ) → Option (List ℕ) → Bool
is_of request origin = option_map_or (is_other origin) (text_of request (codes "origin")) false

-- there is no page, or it is the host's own or of that other origin
abbrev pub is_let_in : Request (List ℕ) → Option (List ℕ) → Bool
is_let_in request origin = option_map_or
    (λ value. is_visible_text value.bytes && (is_own request value.bytes || is_other origin value.bytes))
    (field_of request (codes "origin")) true

-- ---- the verdict

abbrev pub resource_at : List ℕ → Option Resource
resource_at path = if bytes_eq path (codes "/upload") then Some Upload else (
    if bytes_eq path (codes "/recorder.js") then Some Script else (
    if bytes_eq path (codes "/health") then Some Health else None))

abbrev pub is_reading : List ℕ → Bool
is_reading method = bytes_eq method (codes "GET") || bytes_eq method (codes "HEAD")

-- JSON, and what a page may send without asking first
abbrev pub is_body_type : List ℕ → Bool
is_body_type value =
    let kind = map to_ascii_lowercase (trim (before_first (λ c. c == 59) value)) in
    bytes_eq kind (codes "application/json") || bytes_eq kind (codes "text/plain")

abbrev pub max_body_bytes : ℕ
max_body_bytes = 1048576

-- a body, with the client that it is of
abbrev pub body_verdict : Request (List ℕ) → Option (List ℕ) → Verdict
body_verdict request None = Says Nameless
body_verdict request (Some client) =
    if not (option_map_or is_body_type (text_of request (codes "content-type")) false) then Says BadType else (
    if nat_lt max_body_bytes (length (body_of request)) then Says TooLong else Takes client)

-- where the page is let in
abbrev pub if_let_in : Request (List ℕ) → Option (List ℕ) → Verdict → Verdict
if_let_in request origin verdict = if is_let_in request origin then verdict else Says Foreign

-- of what is only read
abbrev pub reading_verdict : Resource → Request (List ℕ) → Option (List ℕ) → Verdict
reading_verdict resource request origin = if is_reading (head_of request).method
    then if_let_in request origin (Says (Gives resource)) else Says (NoMethod resource)

abbrev pub verdict_at : Resource → Request (List ℕ) → Option (List ℕ) → Verdict
verdict_at Upload request origin = let method = (head_of request).method in
    if bytes_eq method (codes "OPTIONS") then Says Preflight else (
    if is_reading method then if_let_in request origin (Asks (client_of request)) else (
    if bytes_eq method (codes "POST") then if_let_in request origin (body_verdict request (client_of request))
    else Says (NoMethod Upload)))
verdict_at resource request origin = reading_verdict resource request origin

-- what is said to a request, where pages of that other origin are let in, too
abbrev pub verdict_of : Request (List ℕ) → Option (List ℕ) → Verdict
verdict_of request origin = option_map_or (λ resource. verdict_at resource request origin)
    (resource_at (uri_path (head_of request).uri)) (Says NoPath)

-- ---- how much of a body counts

abbrev pub max_heard_lines : ℕ
max_heard_lines = 1024

abbrev pub max_heard_bytes : ℕ
max_heard_bytes = 65536

-- so many bytes, and on to the end of the line that stands there
abbrev pub to_line_end : ℕ → List ℕ → List ℕ
to_line_end count body = take (count + position_or_len is_line_feed (drop count body) + 1) body

-- the first lines of a body, of those that have at most so many bytes before them; the rest is as if it weren't sent
abbrev pub heard_of : List ℕ → List ℕ
heard_of body = bytes_of_lines (take max_heard_lines (complete_lines (to_line_end max_heard_bytes body)))

-- ---- the visits that a query names

abbrev pub visit_in_part : List ℕ → Option (List ℕ)
visit_in_part part =
    option_and_then (λ name. if is_client name then Some name else None) (behind_front (codes "v=") part)

abbrev pub visits_of_query : List ℕ → List (List ℕ)
visits_of_query query = filter_map visit_in_part (slice_split (λ c. c == 38) query)

abbrev pub visits_queried : Request (List ℕ) → List (List ℕ)
visits_queried request = option_map_or visits_of_query (uri_query (head_of request).uri) []
