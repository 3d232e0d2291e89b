-- The page that a request comes from: RFC 6454, section 7, and this project's own rule.
use Rattle.std.specs.Prelude.{ℕ, List, [], ◌∷◌, ◌++◌, codes, Bool, false, bytes_eq}
use Rattle.http.specs.Request.{head_of}
use Rattle.http.specs.declared.request.Request.{Request}
use Rattle.http_header.specs.FieldValue.{FieldValue}
use Rattle.http_header.specs.HeaderMap.{get_all}

-- there is one alone, and it is that of the host
abbrev pub is_one_of_host : List FieldValue → List ℕ → Bool
is_one_of_host [] host = false
is_one_of_host (value ∷ []) host = bytes_eq value.bytes (codes "http://" ++ host)
is_one_of_host (value ∷ next ∷ rest) host = false

-- the page is the host's own
abbrev pub is_from_host : Request (List ℕ) → List ℕ → Bool
is_from_host request host = is_one_of_host (get_all (head_of request).headers (codes "origin")) host
