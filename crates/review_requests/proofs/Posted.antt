-- Which request it was, where it decides something.
use Rattle.std.proofs.Common.{◌≡◌, ℕ, List, [], ◌∷◌, ◌++◌, length, map, codes, Bool, true, false, not, nat_lt, bytes_eq, if◌then◌else◌, Option, Some, None, Result, Ok, Err, IfOk, unwrap_or, refl, sym, ap, ◌∙◌}
use Rattle.std.specs.Option.{option_map_or}
use Rattle.std.proofs.lemmas.Bool.{false≢true, ltb-false}
use Rattle.std.proofs.lemmas.Slice.Eq.{bytes_eq-Decides}
use Rattle.http.specs.Request.{head_of, body_of}
use Rattle.http.specs.declared.request.Request.{Request}
use Rattle.http_header.specs.FieldValue.{FieldValue}
use Rattle.http_header.specs.HeaderMap.{get_all}
use Rattle.http_uri.specs.Uri.{uri_path, uri_query}
use Rattle.conflict_desk.specs.declared.decision.Decision.{Decision}
use Rattle.review_requests.specs.Form.{word_in}
use Rattle.review_requests.specs.Host.{host_of, is_local}
use Rattle.review_requests.specs.Origin.{is_one_of_host, is_from_host}
use Rattle.review_requests.specs.Posting.{IsOwnPosting, DecidesByOwnPosting}
use Rattle.review_requests.specs.Target.{address_at, view_at}
use Rattle.review_requests.specs.Verdict.{asked_of, asked_of_host, decision_asked, form_asks, has_token, max_form_bytes, only_looks, posting_asks, reading_asks, sends_form}
use Rattle.review_requests.specs.declared.refusal.Refusal.{Refusal}
use Rattle.review_requests.specs.declared.refusal.Refusal.TheVariants.{OtherHost, NoAddress, OnlyRead, OnlyPosted, OtherPage, NoForm, LongForm, BadForm, OldToken}
use Rattle.review_requests.specs.declared.target.Address.{Address}
use Rattle.review_requests.specs.declared.target.View.{View}
use Rattle.review_requests.specs.declared.verdict.Judged.{Judged}
use Rattle.review_requests.specs.declared.verdict.Judged.TheVariants.{Refused, Shows, Decides}

-- ---- what was seen on the way to a decision

module _ (d : Decision) where
  abbrev pub IsThat : Judged → Type 0
  IsThat judged = judged ≡ Decides d

  passed : (test : Bool) (judged : Judged) (refusal : Refusal) → IsThat (if test then judged else Refused refusal) → (test ≡ true) × IsThat judged
  passed true judged refusal is = (refl, is)
  passed false judged refusal is = absurd (cc)

  spared : (test : Bool) (judged : Judged) (refusal : Refusal) → IsThat (if test then Refused refusal else judged) → (test ≡ false) × IsThat judged
  spared true judged refusal is = absurd (cc)
  spared false judged refusal is = (refl, is)

  spared_by : (test : Bool) (judged : Judged) (refusal : Refusal)
      → IsThat (if not test then Refused refusal else judged) → (test ≡ true) × IsThat judged
  spared_by true judged refusal is = (refl, is)
  spared_by false judged refusal is = absurd (cc)

  chosen : (test : Bool) (judged other : Judged) → (IsThat other → ⊥) → IsThat (if test then judged else other) → (test ≡ true) × IsThat judged
  chosen true judged other never is = (refl, is)
  chosen false judged other never is = absurd (never is)

  given : {X : Type 0} (o : Option X) (judge : X → Judged) (refusal : Refusal) → IsThat (option_map_or judge o (Refused refusal))
      → (x : X) × (o ≡ Some x) × IsThat (judge x)
  given None judge refusal is = absurd (cc)
  given (Some x) judge refusal is = (x, refl, is)

  never_shown : (o : Option View) → IsThat (option_map_or Shows o (Refused NoAddress)) → ⊥
  never_shown None is = cc
  never_shown (Some view) is = cc

-- ---- what tests say

is_text : (text other : List ℕ) → bytes_eq text other ≡ true → text ≡ other
is_text text other same = (bytes_eq-Decides text other).0 same

said : (token : List ℕ) (o : Option (List ℕ)) → option_map_or (λ word. bytes_eq word token) o false ≡ true → o ≡ Some token
said token None is = absurd (false≢true is)
said token (Some word) is = ap Some (is_text word token is)

alone : (values : List FieldValue) (host : List ℕ) → is_one_of_host values host ≡ true
    → map (λ (value : FieldValue). value.bytes) values ≡ (codes "http://" ++ host) ∷ []
alone [] host is = absurd (false≢true is)
alone (value ∷ []) host is = ap (λ text. text ∷ []) (is_text value.bytes (codes "http://" ++ host) is)
alone (value ∷ next ∷ rest) host is = absurd (false≢true is)

-- ---- the request

module _ (request : Request (List ℕ)) (port : ℕ) (token : List ℕ) (d : Decision) where
  no_reading : (address : Address) → IsThat d (reading_asks address request) → ⊥
  no_reading address is =
      let looks = passed d (only_looks (head_of request).method)
      (option_map_or Shows (view_at address (unwrap_or (uri_query (head_of request).uri) [])) (Refused NoAddress)) OnlyRead is in
      never_shown d (view_at address (unwrap_or (uri_query (head_of request).uri) [])) looks.1

  no_address : (o : Option Address) → IsThat d (option_map_or (λ address. reading_asks address request) o (Refused NoAddress)) → ⊥
  no_address None is = cc
  no_address (Some address) is = no_reading address is

  decided : IsThat d (asked_of request port token) → IsOwnPosting request port token
  decided is =
      let (host, meant, at_host) = given d (host_of request)
      (λ (host : List ℕ). if is_local port host then asked_of_host request host token else Refused OtherHost) OtherHost is in
      let (here, of_host) = passed d (is_local port host) (asked_of_host request host token) OtherHost at_host in
      let path = uri_path (head_of request).uri in
      let (decides, by_method) = chosen d (bytes_eq path (codes "/decide"))
      (if bytes_eq (head_of request).method (codes "POST") then posting_asks request host token else Refused OnlyPosted)
      (option_map_or (λ address. reading_asks address request) (address_at path) (Refused NoAddress)) (no_address (address_at path)) of_host in
      let (posts, posting) = passed d (bytes_eq (head_of request).method (codes "POST")) (posting_asks request host token) OnlyPosted by_method in
      let (page, by_type) = spared_by d (is_from_host request host) (if not (sends_form request) then Refused NoForm else (
      if nat_lt max_form_bytes (length (body_of request)) then Refused LongForm else form_asks token (body_of request))) OtherPage posting in
      let (typed, by_length) = spared_by d (sends_form request)
      (if nat_lt max_form_bytes (length (body_of request)) then Refused LongForm else form_asks token (body_of request)) NoForm by_type in
      let (short, by_form) = spared d (nat_lt max_form_bytes (length (body_of request))) (form_asks token (body_of request)) LongForm by_length in
      let (decision, asked, by_token) = given d (decision_asked (body_of request))
      (λ (decision : Decision). if has_token token (body_of request) then Decides decision else Refused OldToken) BadForm by_form in
      let (known, same) = passed d (has_token token (body_of request)) (Decides decision) OldToken by_token in (
        host,
        record {
          meant = meant;
          here = here;
          path = is_text path (codes "/decide") decides;
          method = is_text (head_of request).method (codes "POST") posts;
          page = alone (get_all (head_of request).headers (codes "origin")) host page;
          typed = typed;
          short = ltb-false max_form_bytes (length (body_of request)) short;
          known = said token (word_in (codes "token") (body_of request)) known;
        },
      )

module _ (request : Request (List ℕ)) (port : ℕ) (token : List ℕ) where
  pub own_posting : {E : Type 0} (r : Result Judged E)
      → IfOk r (λ judged. judged ≡ asked_of request port token) → IfOk r (DecidesByOwnPosting request port token)
  own_posting (Ok judged) is = λ d decides. decided request port token d (sym is ∙ decides)
  own_posting (Err e) is = tt
