-- Addresses without the pairs of fresh names.
use Rattle.std.proofs.Common.{◌≡◌, ◌==◌, ℕ, suc, ◌+◌, ◌<◌, List, [], ◌∷◌, ◌++◌, length, drop, take, filter, not, Bool, true, false, if◌then◌else◌, codes, refl, sym, ◌∙◌, ap, arith, append_assoc, append-nil, ◌||◌, All, IsUtf8}
use Rattle.std.proofs.lemmas.Bool.Decides.{nat_tests}
use Rattle.std.proofs.lemmas.List.Elements.{All-nil, All-cons}
use Rattle.std.proofs.lemmas.Str.{utf8_lossy-IsUtf8}
use Rattle.std.specs.List.{list_all, list_any, slice_split, onto_first, position_or_len, before_first, after_first}
use Rattle.std.specs.Str.Lossy.{utf8_lossy}
use Rattle.form_urlencoded.specs.Form.{decode, IsPlain}
use Rattle.form_urlencoded.proofs.FormLemmas.{decode_plain}
use Rattle.page_looks.specs.Sending.{is_passed_over, kept_pairs, next_pairs, query_text, unmarked_without}

-- pairs with a mark before the first, and a `&` before each further one
abbrev pub marked : List ℕ → List (List ℕ) → List ℕ
marked mark [] = []
marked mark (pair ∷ rest) = mark ++ pair ++ next_pairs rest

pub query_marked : (pairs : List (List ℕ)) → query_text pairs ≡ marked (codes "?") pairs
query_marked [] = refl
query_marked (pair ∷ rest) = refl

pub next_marked : (pairs : List (List ℕ)) → next_pairs pairs ≡ marked (codes "&") pairs
next_marked [] = refl
next_marked (pair ∷ rest) = refl

-- the first pair, kept or not
cut_off : (fresh : List (List ℕ)) (pair : List ℕ) (rest : List (List ℕ)) (b : Bool) → is_passed_over fresh pair ≡ b
    → filter (λ p. not (is_passed_over fresh p)) (pair ∷ rest)
    ≡ (if b then filter (λ p. not (is_passed_over fresh p)) rest else pair ∷ filter (λ p. not (is_passed_over fresh p)) rest)
cut_off fresh pair rest true is = rw is refl
cut_off fresh pair rest false is = rw is refl

pub is_left_out : (fresh : List (List ℕ)) (text pair mark : List ℕ) (rest : List (List ℕ)) → slice_split (λ c. c == 38) text ≡ pair ∷ rest
    → is_passed_over fresh pair ≡ true → marked mark (kept_pairs fresh text) ≡ marked mark (filter (λ p. not (is_passed_over fresh p)) rest)
is_left_out fresh text pair mark rest cut is =
    ap (λ ps. marked mark (filter (λ p. not (is_passed_over fresh p)) ps)) cut ∙ ap (marked mark) (cut_off fresh pair rest true is)

pub is_kept : (fresh : List (List ℕ)) (text pair mark : List ℕ) (rest : List (List ℕ)) → slice_split (λ c. c == 38) text ≡ pair ∷ rest
    → is_passed_over fresh pair ≡ false
    → marked mark (kept_pairs fresh text) ≡ mark ++ pair ++ marked (codes "&") (filter (λ p. not (is_passed_over fresh p)) rest)
is_kept fresh text pair mark rest cut is =
    ap (λ ps. marked mark (filter (λ p. not (is_passed_over fresh p)) ps)) cut ∙ ap (marked mark) (cut_off fresh pair rest false is)
    ∙ ap (λ t. mark ++ pair ++ t) (next_marked (filter (λ p. not (is_passed_over fresh p)) rest))

-- ---- cutting

pub split_none : {X : Type 0} (p : X → Bool) (xs : List X) → position_or_len p xs ≡ length xs → slice_split p xs ≡ xs ∷ []
split_none p [] is = refl
split_none p (x ∷ xs) is = here (p x) refl (split_none p xs)
  where
    here : (b : Bool) → p x ≡ b → (position_or_len p xs ≡ length xs → slice_split p xs ≡ xs ∷ []) → slice_split p (x ∷ xs) ≡ (x ∷ xs) ∷ []
    here true own rest =
        let first : position_or_len p (x ∷ xs) ≡ 0 = rw own refl in
        absurd (omega (arith, first, is))
    here false own rest =
        let one : position_or_len p (x ∷ xs) ≡ 1 + position_or_len p xs = rw own refl in
        let later : position_or_len p (x ∷ xs) ≡ suc (position_or_len p xs) = omega (arith, one) in
        rw own (ap (onto_first x) (rest (omega (arith, later, is))))

pub split_some : {X : Type 0} (p : X → Bool) (xs : List X) → position_or_len p xs < length xs
    → slice_split p xs ≡ before_first p xs ∷ slice_split p (after_first p xs)
split_some p [] less = absurd (omega (arith, less))
split_some p (x ∷ xs) less = here (p x) refl (split_some p xs)
  where
    here : (b : Bool) → p x ≡ b → (position_or_len p xs < length xs → slice_split p xs ≡ before_first p xs ∷ slice_split p (after_first p xs))
        → slice_split p (x ∷ xs) ≡ before_first p (x ∷ xs) ∷ slice_split p (after_first p (x ∷ xs))
    here true own below = rw own refl
    here false own below =
        let one : position_or_len p (x ∷ xs) ≡ 1 + position_or_len p xs = rw own refl in
        let later : position_or_len p (x ∷ xs) ≡ suc (position_or_len p xs) = omega (arith, one) in
        let rest = below (omega (arith, later, less)) in
        let next : suc (position_or_len p xs) + 1 ≡ suc (position_or_len p xs + 1) = omega arith in
        let front : before_first p (x ∷ xs) ≡ x ∷ before_first p xs = ap (λ n. take n (x ∷ xs)) later in
        let back : after_first p (x ∷ xs) ≡ after_first p xs = ap (λ n. drop (n + 1) (x ∷ xs)) later ∙ ap (λ n. drop n (x ∷ xs)) next in
        let whole : slice_split p (x ∷ xs) ≡ onto_first x (slice_split p xs) = rw own refl in
        whole ∙ ap (onto_first x) rest ∙ ap (λ l. l ∷ slice_split p (after_first p xs)) (sym front)
        ∙ ap (λ l. before_first p (x ∷ xs) ∷ slice_split p l) (sym back)

-- ---- an address without a query

none_marked : {X : Type 0} (p : X → Bool) (xs : List X) → position_or_len p xs ≡ length xs → list_any p xs ≡ false
none_marked p [] is = refl
none_marked p (x ∷ xs) is = here (p x) refl (none_marked p xs)
  where
    here : (b : Bool) → p x ≡ b → (position_or_len p xs ≡ length xs → list_any p xs ≡ false) → list_any p (x ∷ xs) ≡ false
    here true own rest =
        let first : position_or_len p (x ∷ xs) ≡ 0 = rw own refl in
        absurd (omega (arith, first, is))
    here false own rest =
        let one : position_or_len p (x ∷ xs) ≡ 1 + position_or_len p xs = rw own refl in
        let later : position_or_len p (x ∷ xs) ≡ suc (position_or_len p xs) = omega (arith, one) in
        rw own (rest (omega (arith, later, is)))

pub stays_whole : (fresh : List (List ℕ)) (address : List ℕ) → position_or_len (λ c. c == 63) address ≡ length address
    → unmarked_without fresh address ≡ address
stays_whole fresh address none = rw (none_marked (λ c. c == 63) address none) refl

-- ---- names that stand for themselves

are_plain : (name : List ℕ) → list_all (λ c. not (c == 43 || c == 37)) name ≡ true → All IsPlain name
are_plain [] all = All-nil IsPlain
are_plain (c ∷ rest) all =
    All-cons IsPlain c rest ((λ plus. grind (arith, nat_tests)), (λ percent. grind (arith, nat_tests))) (are_plain rest (grind (arith, nat_tests)))

pub is_read_as_written : (name : List ℕ) → IsUtf8 name → list_all (λ c. not (c == 43 || c == 37)) name ≡ true
    → utf8_lossy (decode name) ≡ name
is_read_as_written name text plain = ap utf8_lossy (decode_plain name (are_plain name plain)) ∙ utf8_lossy-IsUtf8 name text

-- ---- the loop over pairs

-- what was pushed, and what is left to push
abbrev pub KeptSoFar : List (List ℕ) → List ℕ → List ℕ → List ℕ → List ℕ → List ℕ → Type 0
KeptSoFar fresh old query now mark rest =
    now ++ marked mark (kept_pairs fresh rest) ≡ old ++ query_text (kept_pairs fresh query)

pub kept_begin : (fresh : List (List ℕ)) (old query : List ℕ) → KeptSoFar fresh old query old (codes "?") query
kept_begin fresh old query = ap (λ l. old ++ l) (sym (query_marked (kept_pairs fresh query)))

pair_kept : (fresh : List (List ℕ)) (mark pair text now new next : List ℕ) (rest : List (List ℕ)) → slice_split (λ c. c == 38) text ≡ pair ∷ rest
    → new ≡ now ++ (if is_passed_over fresh pair then [] else mark ++ pair)
    → next ≡ (if is_passed_over fresh pair then mark else codes "&")
    → new ++ marked next (filter (λ p. not (is_passed_over fresh p)) rest) ≡ now ++ marked mark (kept_pairs fresh text)
pair_kept fresh mark pair text now new next rest cut pushed further = here (is_passed_over fresh pair) refl
  where
    here : (b : Bool) → is_passed_over fresh pair ≡ b
        → new ++ marked next (filter (λ p. not (is_passed_over fresh p)) rest) ≡ now ++ marked mark (kept_pairs fresh text)
    here true own =
        let first : new ≡ now ++ [] = rw own at pushed in
        let whole : new ≡ now = first ∙ append-nil now in
        let mark_is : next ≡ mark = rw own at further in
        ap (λ l. l ++ marked next (filter (λ p. not (is_passed_over fresh p)) rest)) whole
        ∙ ap (λ m. now ++ marked m (filter (λ p. not (is_passed_over fresh p)) rest)) mark_is
        ∙ ap (λ l. now ++ l) (sym (is_left_out fresh text pair mark rest cut own))
    here false own =
        let whole : new ≡ now ++ (mark ++ pair) = rw own at pushed in
        let mark_is : next ≡ codes "&" = rw own at further in
        ap (λ l. l ++ marked next (filter (λ p. not (is_passed_over fresh p)) rest)) whole
        ∙ ap (λ m. (now ++ (mark ++ pair)) ++ marked m (filter (λ p. not (is_passed_over fresh p)) rest)) mark_is
        ∙ append_assoc now (mark ++ pair) (marked (codes "&") (filter (λ p. not (is_passed_over fresh p)) rest))
        ∙ ap (λ l. now ++ l) (sym (is_kept fresh text pair mark rest cut own))

pub kept_goes_on : (fresh : List (List ℕ)) (old query mark pair text now new next further : List ℕ) → KeptSoFar fresh old query now mark text
    → slice_split (λ c. c == 38) text ≡ pair ∷ slice_split (λ c. c == 38) further
    → new ≡ now ++ (if is_passed_over fresh pair then [] else mark ++ pair)
    → next ≡ (if is_passed_over fresh pair then mark else codes "&") → KeptSoFar fresh old query new next further
kept_goes_on fresh old query mark pair text now new next further so_far cut pushed mark_is =
    pair_kept fresh mark pair text now new next (slice_split (λ c. c == 38) further) cut pushed mark_is ∙ so_far

pub kept_end : (fresh : List (List ℕ)) (old query mark pair text now new next : List ℕ) → KeptSoFar fresh old query now mark text
    → slice_split (λ c. c == 38) text ≡ pair ∷ [] → new ≡ now ++ (if is_passed_over fresh pair then [] else mark ++ pair)
    → next ≡ (if is_passed_over fresh pair then mark else codes "&") → new ≡ old ++ query_text (kept_pairs fresh query)
kept_end fresh old query mark pair text now new next so_far cut pushed mark_is =
    sym (append-nil new) ∙ pair_kept fresh mark pair text now new next [] cut pushed mark_is ∙ so_far
