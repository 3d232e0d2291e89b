-- The index of a step: what `]` closes, and the number of its digits.
use Rattle.std.proofs.Common.{◌≡◌, ◌≢◌, ℕ, zero, suc, ◌+◌, ◌*◌, ◌-◌, ◌^◌, ◌<◌, ◌≤◌, Bool, true, false, ◌&&◌, List, [], ◌∷◌, ◌++◌, length, take, get_or, Option, Some, None, if◌then◌else◌, refl, sym, ◌∙◌, ap, arith, length-append, bytes_eq, rules}
use Rattle.std.specs.List.{list_all}
use Rattle.std.specs.Char.{is_ascii_digit}
use Rattle.std.specs.Str.Parse.{digits_value}
use Rattle.std.proofs.lemmas.Str.Parse.{IsNumeralModel, numerals_by_value, digits_value_short}
use Rattle.std.proofs.lemmas.Str.{digit_value_digit}
use Rattle.std.proofs.lemmas.Int.Digits.{digits_value_more}
use Rattle.std.proofs.lemmas.List.{length-take}
use Rattle.std.proofs.lemmas.Slice.Eq.{bytes_eq-Decides}
use Rattle.std.proofs.lemmas.Bool.{and_parts, and_from, and_right, false_from_ne_true, leb-true, ltb-true, eqb-false, not-true}
use Rattle.std.proofs.Math.Seq.{take-append_seam}
use Rattle.xpath_child.specs.Fault.{front, is_index, is_closed_index}

pub own : IsNumeralModel (λ ds. list_all is_ascii_digit ds ≡ true) (digits_value 10)
own = numerals_by_value _ (search rules)

and_true : (a b : Bool) → b ≡ true → (a && b) ≡ a
and_true true b h = h
and_true false b h = refl

pub front-close : (ds : List ℕ) → front (ds ++ 93 ∷ []) ≡ ds
front-close ds =
    let short : length (ds ++ 93 ∷ []) - 1 ≡ length ds = omega (arith, length-append ds (93 ∷ [])) in
    ap (λ n. take n (ds ++ 93 ∷ [])) short ∙ take-append_seam ds (93 ∷ [])

pub is_closed_index-close : (ds : List ℕ) → is_closed_index (ds ++ 93 ∷ []) ≡ is_index ds
is_closed_index-close ds =
    ap (λ f. is_index f && bytes_eq (ds ++ 93 ∷ []) (f ++ 93 ∷ [])) (front-close ds)
    ∙ and_true (is_index ds) (bytes_eq (ds ++ 93 ∷ []) (ds ++ 93 ∷ [])) ((bytes_eq-Decides (ds ++ 93 ∷ []) (ds ++ 93 ∷ [])).1 refl)

pub not_closed : (text : List ℕ) → ((ds : List ℕ) → text ≢ ds ++ 93 ∷ []) → is_closed_index text ≡ false
not_closed text none = and_right (is_index (front text)) _ (false_from_ne_true _ (λ h. none (front text) ((bytes_eq-Decides text (front text ++ 93 ∷ [])).0 h)))

-- the parts of `is_index`
pub record IsIndex (ds : List ℕ) : Type 0 where
  pub some : 0 < length ds
  pub few : length ds ≤ 9
  pub digits : list_all is_ascii_digit ds ≡ true
  pub first : get_or ds 0 0 ≢ 48

pub index_parts : (ds : List ℕ) → is_index ds ≡ true → IsIndex ds
index_parts ds h =
    let first = and_parts _ _ h in
    let digits = and_parts _ _ first.0 in
    let sizes = and_parts _ _ digits.0 in
    record { some = ltb-true _ _ sizes.0; few = leb-true _ _ sizes.1; digits = digits.1; first = eqb-false _ _ (not-true _ first.1) }

-- ---- the number of its digits

digit_here : (ds : List ℕ) (i : ℕ) → list_all is_ascii_digit ds ≡ true → i < length ds → is_ascii_digit (get_or ds i 0) ≡ true
digit_here [] i h inside = absurd (omega arith)
digit_here (d ∷ ds) zero h inside = (and_parts _ _ h).0
digit_here (d ∷ ds) (suc i) h inside = digit_here ds i (and_parts _ _ h).1 (omega arith)

digits_front : (ds : List ℕ) (i : ℕ) → list_all is_ascii_digit ds ≡ true → list_all is_ascii_digit (take i ds) ≡ true
digits_front ds zero h = refl
digits_front [] (suc i) h = refl
digits_front (d ∷ ds) (suc i) h = let parts = and_parts _ _ h in and_from _ _ parts.0 (digits_front ds i parts.1)

-- one digit more, all within 32 bits
pub digit_next : (ds : List ℕ) (i n : ℕ) → is_index ds ≡ true → i < length ds → n ≡ digits_value 10 (take i ds)
    → (48 ≤ get_or ds i 0) × (n * 10 + (get_or ds i 0 - 48) ≡ digits_value 10 (take (i + 1) ds)) × (n * 10 + (get_or ds i 0 - 48) < 10 ^ 9)
digit_next ds i n h inside so_far =
    let parts = index_parts ds h in
    let digit = and_parts _ _ (digit_here ds i parts.digits inside) in
    let low : 48 ≤ get_or ds i 0 = leb-true _ _ digit.0 in
    let high : get_or ds i 0 ≤ 57 = leb-true _ _ digit.1 in
    let value = digit_value_digit (get_or ds i 0) (low, high) in
    let small = digits_value_short own (take (i + 1) ds) 9 (digits_front ds (i + 1) parts.digits) (omega (arith, parts.few, length-take (i + 1) ds)) in
    let more = digits_value_more 10 ds i inside in
    let next : n * 10 + (get_or ds i 0 - 48) ≡ digits_value 10 (take (i + 1) ds) = omega (arith, more, value, low, so_far) in
    (low, next, omega (arith, next, small))

abbrev pub index_of : List ℕ → Option ℕ
index_of text = if is_closed_index text then Some (digits_value 10 (front text)) else None

pub index_none : (text : List ℕ) → is_closed_index text ≡ false → None ≡ index_of text
index_none text h = sym (ap (λ b. if b then Some (digits_value 10 (front text)) else None) h)

pub index_some : (text ds : List ℕ) → text ≡ ds ++ 93 ∷ [] → is_index ds ≡ true → Some (digits_value 10 ds) ≡ index_of text
index_some text ds is h =
    let closed : is_closed_index text ≡ true = ap is_closed_index is ∙ is_closed_index-close ds ∙ h in
    let digits : front text ≡ ds = ap front is ∙ front-close ds in
    sym (ap (λ b. if b then Some (digits_value 10 (front text)) else None) closed ∙ ap (λ f. Some (digits_value 10 f)) digits)
