-- What a request to the administrator's page is, by itself, the port and the token alone: this project's own rule.
use Rattle.std.specs.Prelude.{ℕ, List, [], length, map, codes, Bool, false, not, ◌||◌, ◌==◌, nat_lt, bytes_eq, if◌then◌else◌, Option, Some, None, is_some, unwrap_or, option_map, option_and_then}
use Rattle.std.specs.Char.{to_ascii_lowercase}
use Rattle.std.specs.List.{before_first}
use Rattle.std.specs.Option.{option_map_or}
use Rattle.std.specs.Str.{trim}
use Rattle.http.specs.Request.{head_of, body_of}
use Rattle.http.specs.declared.request.Request.{Request}
use Rattle.http_uri.specs.Uri.{uri_path, uri_query}
use Rattle.conflict_desk.specs.declared.decided.Choice.{Choice}
use Rattle.conflict_desk.specs.declared.decided.Choice.TheVariants.{Cancel, Keep}
use Rattle.conflict_desk.specs.declared.decision.Decision.{Decision}
use Rattle.review_requests.specs.Form.{word_in, client_word, visit_word}
use Rattle.review_requests.specs.Host.{field_text, host_of, is_local}
use Rattle.review_requests.specs.Origin.{is_from_host}
use Rattle.review_requests.specs.Target.{address_at, view_at}
use Rattle.review_requests.specs.declared.target.Address.{Address}
use Rattle.review_requests.specs.declared.verdict.Judged.{Judged}
use Rattle.review_requests.specs.declared.verdict.Judged.TheVariants.{Refused, Shows, Decides}
use Rattle.review_requests.specs.declared.refusal.Refusal.TheVariants.{OtherHost, NoAddress, OnlyRead, OnlyPosted, OtherPage, NoForm, LongForm, BadForm, OldToken}

-- ---- a decision

-- one of the two buttons alone
abbrev pub choice_by : Bool → Bool → Option Choice
choice_by keeps cancels =
    if keeps then (if cancels then None else Some Keep) else (if cancels then Some Cancel else None)

abbrev pub choice_pressed : List ℕ → Option Choice
choice_pressed form = choice_by (is_some (word_in (codes "keep") form)) (is_some (word_in (codes "cancel") form))

abbrev pub decision_by : List ℕ → ℕ → Choice → Decision
decision_by client visit choice = record { client = client; visit = visit; choice = choice }

abbrev pub decision_asked : List ℕ → Option Decision
decision_asked form = option_and_then (λ client.
    option_and_then (λ visit. option_map (decision_by client visit) (choice_pressed form))
    (visit_word (codes "visit") form))
    (client_word (codes "client") form)

abbrev pub has_token : List ℕ → List ℕ → Bool
has_token token form = option_map_or (λ word. bytes_eq word token) (word_in (codes "token") form) false

-- 400 without a decision, 403 without the token
abbrev pub form_asks : List ℕ → List ℕ → Judged
form_asks token form = option_map_or
    (λ decision. if has_token token form then Decides decision else Refused OldToken)
    (decision_asked form) (Refused BadForm)

-- a form as a browser sends it, its parameters aside
abbrev pub is_form_type : List ℕ → Bool
is_form_type value = bytes_eq
    (map to_ascii_lowercase (trim (before_first (λ c. c == 59) value))) (codes "application/x-www-form-urlencoded")

abbrev pub sends_form : Request (List ℕ) → Bool
sends_form request = option_map_or is_form_type (field_text request (codes "content-type")) false

abbrev pub max_form_bytes : ℕ
max_form_bytes = 4096

-- 403 of another page, 415 of another type, 413 of too much
abbrev pub posting_asks : Request (List ℕ) → List ℕ → List ℕ → Judged
posting_asks request host token =
    if not (is_from_host request host) then Refused OtherPage else (
    if not (sends_form request) then Refused NoForm else (
    if nat_lt max_form_bytes (length (body_of request)) then Refused LongForm else form_asks token (body_of request)))

-- ---- the verdict

abbrev pub only_looks : List ℕ → Bool
only_looks method = bytes_eq method (codes "GET") || bytes_eq method (codes "HEAD")

-- a query without what the view needs is 404, too
abbrev pub reading_asks : Address → Request (List ℕ) → Judged
reading_asks address request = if only_looks (head_of request).method
    then option_map_or Shows (view_at address (unwrap_or (uri_query (head_of request).uri) [])) (Refused NoAddress)
    else Refused OnlyRead

-- of a request to this host: 404 of another address, 405 of another method
abbrev pub asked_of_host : Request (List ℕ) → List ℕ → List ℕ → Judged
asked_of_host request host token = let path = uri_path (head_of request).uri in
    if bytes_eq path (codes "/decide") then (
    if bytes_eq (head_of request).method (codes "POST") then posting_asks request host token else Refused OnlyPosted)
    else option_map_or (λ address. reading_asks address request) (address_at path) (Refused NoAddress)

-- 421 to another host, then all else in its order
abbrev pub asked_of : Request (List ℕ) → ℕ → List ℕ → Judged
asked_of request port token = option_map_or
    (λ host. if is_local port host then asked_of_host request host token else Refused OtherHost)
    (host_of request) (Refused OtherHost)
