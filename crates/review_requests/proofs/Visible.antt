-- Values of fields that are visible text.
use Rattle.std.proofs.Common.{◌≡◌, ℕ, List, Bool, true, false, if◌then◌else◌, Option, Some, None, option_and_then, refl, sym, ap, ◌∙◌}
use Rattle.std.proofs.lemmas.List.Sums.{AllPass-from_list_all, list_all-from_AllPass}
use Rattle.http_header.specs.FieldValue.{FieldValue, IsVisibleAscii, is_visible_text}
use Rattle.http_header.specs.Token.{is_visible_or_blank}

is_visible : (bytes : List ℕ) → IsVisibleAscii bytes → is_visible_text bytes ≡ true
is_visible bytes all = list_all-from_AllPass is_visible_or_blank bytes all

no_test : (bytes : List ℕ) (test : Bool) → is_visible_text bytes ≡ test → (IsVisibleAscii bytes → ⊥) → test ≡ false
no_test bytes true is not = absurd (not (AllPass-from_list_all is_visible_or_blank bytes is))
no_test bytes false is not = refl

abbrev text_by : Option FieldValue → Option (List ℕ)
text_by o = option_and_then (λ (v : FieldValue). if is_visible_text v.bytes then Some v.bytes else None) o

pub text_some : (o : Option FieldValue) (value : FieldValue) (text : List ℕ) →
    Some value ≡ o → text ≡ value.bytes → IsVisibleAscii value.bytes → Some text ≡ text_by o
text_some o value text is same visible =
    ap Some same ∙ ap (λ b. if b then Some value.bytes else None) (sym (is_visible value.bytes visible)) ∙ ap text_by is

pub text_none : (o : Option FieldValue) (value : FieldValue) → Some value ≡ o → (IsVisibleAscii value.bytes → ⊥) → None ≡ text_by o
text_none o value is not =
    ap (λ b. if b then Some value.bytes else None) (sym (no_test value.bytes (is_visible_text value.bytes) refl not)) ∙ ap text_by is
