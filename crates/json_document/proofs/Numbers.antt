-- Numbers of 64 bits without a sign, among those that `serde_json` reads.
use Rattle.std.proofs.Common.{◌≡◌, ℕ, ◌<◌, ◌^◌, length, Bool, true, false, not, ◌&&◌, ◌==◌, if◌then◌else◌, nat_lt, nat_le, Float, Option, Some, None, option_and_then, refl, sym, ◌∙◌, arith, lt-ltb}
use Rattle.std.specs.Prelude.{SomeIff}
use Rattle.std.specs.Float.{binary64, float_is_finite}
use Rattle.fast_float.specs.Text.{Parts, digits_of, nearest, with_sign, IsInteger}
use Rattle.serde_json.specs.Data.{Num, unsigned, negative, float}
use Rattle.serde_json.specs.Read.{is_integer, float_of, number_from}
use Rattle.serde_json.specs.Find.{as_u64}

both : (a b : Bool) → (a && b) ≡ true → (a ≡ true) × (b ≡ true)
both true b e = (refl, e)
both false b e = cc

not_true : (b : Bool) → not b ≡ true → b ≡ false
not_true true e = cc
not_true false e = refl

are_integer : (p : Parts) → is_integer p ≡ true → IsInteger p
are_integer p e =
    let (some, rest) = both (nat_lt 0 (length p.whole)) (not p.point && (length p.exponent == 0)) (sym (assoc (nat_lt 0 (length p.whole)) (not p.point) (length p.exponent == 0)) ∙ e) in
    let (point, exponent) = both (not p.point) (length p.exponent == 0) rest in
    let long : 0 < length p.whole = grind arith in
    let none : length p.exponent ≡ 0 = grind arith in
    (long, not_true p.point point, none)
  where
    assoc : (a b c : Bool) → ((a && b) && c) ≡ (a && (b && c))
    assoc true b c = refl
    assoc false b c = refl

is_integer_is : (p : Parts) → IsInteger p → is_integer p ≡ true
is_integer_is p (long, point, exponent) = rw (lt-ltb 0 (length p.whole) long, point, exponent) refl

float_is_none : (test : Bool) (x : Float) → option_and_then as_u64 (if test then Some (float x) else None) ≡ None
float_is_none true x = refl
float_is_none false x = refl

signed_is_none : (test : Bool) (n : Num) (p : Parts) → option_and_then as_u64 (Some n) ≡ None → option_and_then as_u64 (if test then Some n else float_of true p) ≡ None
signed_is_none true n p none = none
signed_is_none false n p none = float_is_none (float_is_finite (nearest binary64 true p)) (nearest binary64 true p)

pub negative_is_none : (p : Parts) → option_and_then as_u64 (number_from true p) ≡ None
negative_is_none p = signed_is_none (is_integer p && nat_lt 0 (digits_of p) && nat_le (digits_of p) (2 ^ 63)) (negative (with_sign true (digits_of p))) p refl

none_at : (test : Bool) (n : ℕ) (p : Parts) → test ≡ false → option_and_then as_u64 (if test then Some (unsigned n) else float_of false p) ≡ None
none_at test n p is = rw is (float_is_none (float_is_finite (nearest binary64 false p)) (nearest binary64 false p))

decided : (b : Bool) → (b ≡ true → ⊥) → b ≡ false
decided true not_so = absurd (not_so refl)
decided false not_so = refl

pub unsigned_is : (p : Parts) (r : Option ℕ) → SomeIff r (IsInteger p × (digits_of p < 2 ^ 64)) (digits_of p) → r ≡ option_and_then as_u64 (number_from false p)
unsigned_is p (Some n) ((integer, fits), is) = rw (is_integer_is p integer, lt-ltb (digits_of p) (2 ^ 64) fits, is) refl
unsigned_is p None unfit =
    sym (none_at (is_integer p && nat_lt (digits_of p) (2 ^ 64)) (digits_of p) p (decided (is_integer p && nat_lt (digits_of p) (2 ^ 64)) (λ e.
    let (integer, less) = both (is_integer p) (nat_lt (digits_of p) (2 ^ 64)) e in
    let fits : digits_of p < 2 ^ 64 = grind arith in
    unfit (are_integer p integer, fits))))
