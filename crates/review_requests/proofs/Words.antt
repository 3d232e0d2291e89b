-- The first word of a name, and what `parse` gives of a word that is a number.
use Rattle.std.proofs.Common.{◌≡◌, ℕ, ◌<◌, List, [], ◌∷◌, length, filter_map, Bool, true, false, not, ◌||◌, ◌==◌, nat_le, Result, Ok, Err, Option, Some, None, refl, sym, ap, ◌∙◌, arith, rules}
use Rattle.std.specs.List.{cons_option, list_all, slice_get}
use Rattle.std.specs.Char.{is_ascii_digit}
use Rattle.std.specs.Option.{option_map_or}
use Rattle.std.specs.Result.{result_ok}
use Rattle.std.specs.Str.Parse.{digits_value, ParsesUnsigned}
use Rattle.std.proofs.lemmas.Bool.{false≢true, and_parts, leb-true}
use Rattle.std.proofs.lemmas.Str.Parse.{IsNumeralModel, numerals_by_value, parse_digits}
use Rattle.upload_reader.specs.Limits.{max_number}
use Rattle.review_requests.specs.Form.{is_numeral}

-- the first value that `f` gives, as a loop over the items comes to it
module _ {X Y : Type 0} (f : X → Option Y) (first : Option Y) where
  pub goes_on : (items rest : List X) (x : X) → items ≡ x ∷ rest → None ≡ f x
      → slice_get (filter_map f items) 0 ≡ first → slice_get (filter_map f rest) 0 ≡ first
  goes_on items rest x are none is =
      ap (λ o. slice_get (cons_option o (filter_map f rest)) 0) none ∙ ap (λ xs. slice_get (filter_map f xs) 0) (sym are) ∙ is

  pub is_found : (items rest : List X) (x : X) (y : Y) → items ≡ x ∷ rest → Some y ≡ f x → slice_get (filter_map f items) 0 ≡ first → Some y ≡ first
  is_found items rest x y are gives is =
      ap (λ o. slice_get (cons_option o (filter_map f rest)) 0) gives ∙ ap (λ xs. slice_get (filter_map f xs) 0) (sym are) ∙ is

  pub none_left : (items : List X) → items ≡ [] → slice_get (filter_map f items) 0 ≡ first → None ≡ first
  none_left items are is = ap (λ xs. slice_get (filter_map f xs) 0) (sym are) ∙ is

digits_tested : IsNumeralModel (λ ds. list_all is_ascii_digit ds ≡ true) (digits_value 10)
digits_tested = numerals_by_value _ (search rules)

has_digit : (text : List ℕ) → (length text == 1 || option_map_or (λ c. not (c == 48)) (slice_get text 0) false) ≡ true → 0 < length text
has_digit [] is = absurd (false≢true is)
has_digit (c ∷ cs) is = omega arith

-- a number that doesn't fit is too great
pub too_great : {E : Type 0} (text : List ℕ) (r : Result ℕ E) → ParsesUnsigned 64 10 text r → is_numeral text ≡ true → result_ok r ≡ None
    → nat_le (digits_value 10 text) max_number ≡ false
too_great text (Ok x) parses numeral none = absurd (cc)
too_great text (Err e) parses numeral none = by_test (nat_le (digits_value 10 text) max_number) refl
  where
    by_test : (test : Bool) → nat_le (digits_value 10 text) max_number ≡ test → test ≡ false
    by_test true small =
        let tested = and_parts _ _ numeral in
        absurd (parse_digits digits_tested 64 text (Err e) parses tested.0 (has_digit text tested.1, omega (arith, leb-true _ _ small)))
    by_test false small = refl
