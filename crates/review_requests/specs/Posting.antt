-- Of which requests a decision comes: this project's own rule.
use Rattle.std.specs.Prelude.{◌≡◌, ℕ, ◌≤◌, List, [], ◌∷◌, ◌++◌, length, map, codes, true, Some}
use Rattle.http.specs.Request.{head_of, body_of}
use Rattle.http.specs.declared.request.Request.{Request}
use Rattle.http_header.specs.FieldValue.{FieldValue}
use Rattle.http_header.specs.HeaderMap.{get_all}
use Rattle.http_uri.specs.Uri.{uri_path}
use Rattle.conflict_desk.specs.declared.decision.Decision.{Decision}
use Rattle.review_requests.specs.Form.{word_in}
use Rattle.review_requests.specs.Host.{host_of, is_local}
use Rattle.review_requests.specs.Verdict.{sends_form, max_form_bytes}
use Rattle.review_requests.specs.declared.verdict.Judged.{Judged}
use Rattle.review_requests.specs.declared.verdict.Judged.TheVariants.{Decides}

-- a page of that host has posted it, this machine's own by that port, as a form with that token
pub record IsPostedTo (request : Request (List ℕ)) (port : ℕ) (token host : List ℕ) : Type 0 where
  pub meant : host_of request ≡ Some host
  pub here : is_local port host ≡ true
  pub path : uri_path (head_of request).uri ≡ codes "/decide"
  pub method : (head_of request).method ≡ codes "POST"
  pub page : map (λ (value : FieldValue). value.bytes) (get_all (head_of request).headers (codes "origin"))
      ≡ (codes "http://" ++ host) ∷ []
  pub typed : sends_form request ≡ true
  pub short : length (body_of request) ≤ max_form_bytes
  pub known : word_in (codes "token") (body_of request) ≡ Some token

abbrev pub IsOwnPosting : Request (List ℕ) → ℕ → List ℕ → Type 0
IsOwnPosting request port token = (host : List ℕ) × IsPostedTo request port token host

-- no other request decides anything
abbrev pub DecidesByOwnPosting : Request (List ℕ) → ℕ → List ℕ → Judged → Type 0
DecidesByOwnPosting request port token judged =
    (decision : Decision) → judged ≡ Decides decision → IsOwnPosting request port token
