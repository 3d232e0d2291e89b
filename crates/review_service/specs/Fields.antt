-- The fields of the answers: this project's own rule.
use Rattle.std.specs.Prelude.{ℕ, List, [], ◌∷◌, ◌++◌, codes}
use Rattle.http1.specs.Fields.{Header}
use Rattle.http_server.specs.Response.{IsResponse}
use Rattle.http_server.specs.declared.response.Response.{Response}

-- ---- fields

-- Of every answer: no copy is kept, no type is guessed, and no page of another origin holds its window. Forms name
-- their page, which `no-referrer` would keep them from.
abbrev pub common_fields : List Header
common_fields = (codes "cache-control", codes "no-store")
    ∷ (codes "x-content-type-options", codes "nosniff")
    ∷ (codes "referrer-policy", codes "same-origin")
    ∷ (codes "cross-origin-opener-policy", codes "same-origin") ∷ []

-- of every answer that pages of other origins can't load
abbrev pub own_fields : List Header
own_fields = common_fields ++ (codes "cross-origin-resource-policy", codes "same-origin") ∷ []

-- what pages may load and send
abbrev pub page_policy : List ℕ
page_policy = codes "default-src 'none'; style-src 'self'; script-src 'self'; connect-src 'self'; frame-src 'self'; "
    ++ codes "form-action 'self'; base-uri 'none'; frame-ancestors 'none'"

-- a drawn page may load its style alone, in a frame of the page
abbrev pub drawing_policy : List ℕ
drawing_policy = codes "default-src 'none'; style-src 'self'; form-action 'none'; base-uri 'none'; "
    ++ codes "frame-ancestors 'self'; sandbox"

abbrev pub html_fields : List ℕ → List Header
html_fields policy = own_fields
    ++ (codes "content-type", codes "text/html; charset=utf-8") ∷ (codes "content-security-policy", policy) ∷ []

-- a text, the script, and the page's style
abbrev pub typed_fields : List ℕ → List Header
typed_fields kind = own_fields ++ (codes "content-type", kind) ∷ []

-- the style of drawn pages, whose origin in their frame is none
abbrev pub drawing_style_fields : List Header
drawing_style_fields = common_fields ++ (codes "content-type", codes "text/css; charset=utf-8") ∷ []

-- whoever decided is sent on
abbrev pub sent_on_fields : List ℕ → List Header
sent_on_fields place = own_fields ++ (codes "location", place) ∷ []

-- ---- answers

-- without memory an answer is this alone
abbrev pub IsBare : Response → Type 0
IsBare response = IsResponse 503 [] [] response

abbrev pub IsHtmlPage : ℕ → Response → Type 0
IsHtmlPage status response = (text : List ℕ) × IsResponse status (html_fields page_policy) text response

abbrev pub IsDrawing : Response → Type 0
IsDrawing response = (text : List ℕ) × IsResponse 200 (html_fields drawing_policy) text response
