-- What `parse` gives of a word that is a number.
use Rattle.std.proofs.Common.{◌≡◌, ℕ, List, true, Result, Some, ap, arith, rules}
use Rattle.std.specs.List.{list_all}
use Rattle.std.specs.Char.{is_ascii_digit}
use Rattle.std.specs.Result.{result_ok}
use Rattle.std.specs.Str.Parse.{digits_value, ParsesUnsigned}
use Rattle.std.proofs.lemmas.Bool.{and_parts, leb-true, ltb-true}
use Rattle.std.proofs.lemmas.Str.Parse.{IsNumeralModel, numerals_by_value, parse_gives, digits_value_short}
use Rattle.review_server.specs.Call.{is_port}

digits_tested : IsNumeralModel (λ ds. list_all is_ascii_digit ds ≡ true) (digits_value 10)
digits_tested = numerals_by_value _ (search rules)

pub parse_number : {E : Type 0} (word : List ℕ) (r : Result ℕ E) → ParsesUnsigned 32 10 word r → is_port word ≡ true
    → result_ok r ≡ Some (digits_value 10 word)
parse_number word r parses number =
    let tested = and_parts _ _ number in
    let sizes = and_parts _ _ tested.0 in
    let small = digits_value_short digits_tested word 5 tested.1 (leb-true _ _ sizes.1) in
    ap result_ok (parse_gives digits_tested 32 word r parses tested.1 (ltb-true _ _ sizes.0) (omega (arith, small)))
