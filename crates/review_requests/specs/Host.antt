-- The host that a request is for: RFC 9112, section 3.2, and this project's own rule.
use Rattle.std.specs.Prelude.{ℕ, List, ◌++◌, codes, decimal, Bool, ◌&&◌, ◌||◌, ◌==◌, bytes_eq, if◌then◌else◌, Option, Some, None, option_and_then}
use Rattle.std.specs.Option.{option_or}
use Rattle.http.specs.Request.{head_of}
use Rattle.http.specs.declared.request.Request.{Request}
use Rattle.http_header.specs.FieldValue.{FieldValue, is_visible_text}
use Rattle.http_header.specs.HeaderMap.{get}
use Rattle.http_uri.specs.Uri.{uri_authority}

-- the first value of a field, where it is visible text
abbrev pub field_text : Request (List ℕ) → List ℕ → Option (List ℕ)
field_text request name = option_and_then (λ (value : FieldValue).
    if is_visible_text value.bytes then Some value.bytes else None) (get (head_of request).headers name)

-- that of the target where it has one, else that of the field
abbrev pub host_of : Request (List ℕ) → Option (List ℕ)
host_of request = option_or (uri_authority (head_of request).uri) (field_text request (codes "host"))

-- this machine's own name, with that port; 80 may be left out (RFC 9110, section 4.2.1)
abbrev pub is_local : ℕ → List ℕ → Bool
is_local port host =
    bytes_eq host (codes "127.0.0.1:" ++ decimal port) || bytes_eq host (codes "localhost:" ++ decimal port)
    || (port == 80 && (bytes_eq host (codes "127.0.0.1") || bytes_eq host (codes "localhost")))
