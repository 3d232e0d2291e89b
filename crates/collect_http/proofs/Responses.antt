-- Responses that get fields, and a body.
use Rattle.std.proofs.Common.{◌≡◌, ℕ, List, [], ◌∷◌, ◌++◌, Option, Result, OnOk, refl, sym, ap, ◌∙◌, subst, append_assoc}
use Rattle.std.proofs.lemmas.Result.{on_ok_weaker}
use Rattle.http.specs.declared.request.Request.{Request}
use Rattle.http1.specs.Fields.{Header}
use Rattle.http_server.specs.Response.{IsResponse, fields_of}
use Rattle.http_server.specs.declared.response.Response.{Response}
use Rattle.collect_http.specs.Answering.{fields_said, status_said}
use Rattle.collect_http.specs.declared.verdict.Plain.{Plain}

-- one more field
pub with_field : (old new : Response) (code : ℕ) (sent : List Header) (content name value given : List ℕ) → IsResponse code sent content old → given ≡ value
    → fields_of new ≡ fields_of old ++ (name, given) ∷ [] → new.status ≡ old.status → new.body ≡ old.body → IsResponse code (sent ++ (name, value) ∷ []) content new
with_field old new code sent content name value given is same headers status body = record {
  status = status ∙ is.status;
  headers = headers ∙ ap (λ v. fields_of old ++ (name, v) ∷ []) same ∙ ap (λ f. f ++ (name, value) ∷ []) is.headers;
  body = ap (λ b. b.items) body ∙ is.body;
}

-- two fields in a row
pub joined : {code : ℕ} {content : List ℕ} {new : Response} (sent : List Header) (first second : Header) → IsResponse code ((sent ++ first ∷ []) ++ second ∷ []) content new
    → IsResponse code (sent ++ first ∷ second ∷ []) content new
joined sent first second is = record { status = is.status; headers = is.headers ∙ append_assoc sent (first ∷ []) (second ∷ []); body = is.body }

-- its status and its body
pub with_status : (old : Response) (code status : ℕ) (sent : List Header) (content : List ℕ) → IsResponse code sent content old
    → IsResponse status sent content (record { status = status; headers = old.headers; body = old.body })
with_status old code status sent content is = record { status = refl; headers = is.headers; body = is.body }

-- what is said to a request without a look at any file
module _ {A E : Type 0} (result : Result A E) (plain said : Plain) (is : plain ≡ said) (request : Request (List ℕ)) (origin : Option (List ℕ)) (old new : Response) where
  abbrev IsSaid : Plain → Type 0
  IsSaid p = (code : ℕ) (sent : List Header) → IsResponse code sent [] old → (text : List ℕ) × IsResponse (status_said p) (sent ++ fields_said p request origin) text new

  pub plain_so : (text : List ℕ) → OnOk result ((code : ℕ) (sent : List Header) → IsResponse code sent [] old → IsResponse (status_said said) (sent ++ fields_said said request origin) text new)
      → OnOk result (IsSaid plain)
  plain_so text says = subst (λ p. OnOk result (IsSaid p)) (sym is) (on_ok_weaker result
      (λ (so : (code : ℕ) (sent : List Header) → IsResponse code sent [] old → IsResponse (status_said said) (sent ++ fields_said said request origin) text new) (code : ℕ) (sent : List Header) (was : IsResponse code sent [] old).
      (text, so code sent was)) says)
