-- Texts that begin with another, and that are visible.
use Rattle.std.proofs.Common.{◌≡◌, ◌≢◌, ℕ, List, ◌++◌, length, take, drop, Bool, true, false, bytes_eq, if◌then◌else◌, Option, Some, None, MatchOption, refl, sym, ap, ◌∙◌, subst}
use Rattle.std.proofs.lemmas.Bool.{false≢true}
use Rattle.std.proofs.lemmas.List.{append_cancel_left, take-append-drop, take_at}
use Rattle.std.proofs.lemmas.Slice.Eq.{bytes_eq-Decides}
use Rattle.std.specs.Option.{option_copied}
use Rattle.std.specs.Str.Pattern.{FindsTextPrefix, StripsPrefix}
use Rattle.collect_http.specs.Asking.{behind_front}
use denote.Ref.{Bor}

begun : (front text : List ℕ) → bytes_eq (take (length front) text) front ≡ true → text ≡ front ++ drop (length front) text
begun front text is = sym (take-append-drop (length front) text) ∙ ap (λ f. f ++ drop (length front) text) ((bytes_eq-Decides (take (length front) text) front).0 is)

not_begun : (front text : List ℕ) (is : Bool) → bytes_eq (take (length front) text) front ≡ is → ((rest : List ℕ) → text ≢ front ++ rest) → is ≡ false
not_begun front text true is lacks = absurd (lacks (drop (length front) text) (begun front text is))
not_begun front text false is lacks = refl

pub stripped : (front text : List ℕ) (r : Option (Bor (List ℕ))) → MatchOption r (FindsTextPrefix front text None) (λ x. StripsPrefix (FindsTextPrefix front) text x.now) → option_copied r ≡ behind_front front text
stripped front text None lacks =
    ap (λ b. if b then Some (drop (length front) text) else None) (sym (not_begun front text (bytes_eq (take (length front) text) front) refl lacks))
stripped front text (Some x) found =
    let (n, at, rest, len) = found in
    let (many, split, boundary) = at in
    let is : text ≡ front ++ drop n text = split in
    let begins : bytes_eq (take (length front) text) front ≡ true = (bytes_eq-Decides (take (length front) text) front).1 (ap (take (length front)) is ∙ take_at front (drop n text) (length front) refl) in
    ap Some (rest ∙ ap (λ m. drop m text) many) ∙ ap (λ b. if b then Some (drop (length front) text) else None) (sym begins)

-- a page of the host
pub page_is : (scheme host page : List ℕ) (r : Option (List ℕ)) → r ≡ behind_front scheme page → MatchOption r (bytes_eq page (scheme ++ host) ≡ false) (λ rest. bytes_eq page (scheme ++ host) ≡ bytes_eq rest host)
page_is scheme host page r is = by_test (bytes_eq (take (length scheme) page) scheme) refl r is
  where
    other : (whole : Bool) → bytes_eq page (scheme ++ host) ≡ whole → bytes_eq (take (length scheme) page) scheme ≡ false → whole ≡ false
    other true same not = absurd (false≢true (sym not ∙ (bytes_eq-Decides (take (length scheme) page) scheme).1 (ap (take (length scheme)) ((bytes_eq-Decides page (scheme ++ host)).0 same) ∙ take_at scheme host (length scheme) refl)))
    other false same not = refl

    tested : (rest : List ℕ) (whole part : Bool) → bytes_eq page (scheme ++ host) ≡ whole → bytes_eq rest host ≡ part → page ≡ scheme ++ rest → whole ≡ part
    tested rest true true same both split = refl
    tested rest true false same both split =
        let equal : scheme ++ rest ≡ scheme ++ host = sym split ∙ (bytes_eq-Decides page (scheme ++ host)).0 same in
        sym ((bytes_eq-Decides rest host).1 (append_cancel_left scheme rest host equal)) ∙ both
    tested rest false true same both split = sym same ∙ (bytes_eq-Decides page (scheme ++ host)).1 (split ∙ ap (λ r. scheme ++ r) ((bytes_eq-Decides rest host).0 both))
    tested rest false false same both split = refl

    by_test : (test : Bool) → bytes_eq (take (length scheme) page) scheme ≡ test → (r : Option (List ℕ)) → r ≡ (if test then Some (drop (length scheme) page) else None) → MatchOption r (bytes_eq page (scheme ++ host) ≡ false) (λ rest. bytes_eq page (scheme ++ host) ≡ bytes_eq rest host)
    by_test true test r is = subst (λ o. MatchOption o (bytes_eq page (scheme ++ host) ≡ false) (λ rest. bytes_eq page (scheme ++ host) ≡ bytes_eq rest host)) (sym is)
        (tested (drop (length scheme) page) (bytes_eq page (scheme ++ host)) (bytes_eq (drop (length scheme) page) host) refl refl (begun scheme page test))
    by_test false test r is = subst (λ o. MatchOption o (bytes_eq page (scheme ++ host) ≡ false) (λ rest. bytes_eq page (scheme ++ host) ≡ bytes_eq rest host)) (sym is)
        (other (bytes_eq page (scheme ++ host)) refl test)
