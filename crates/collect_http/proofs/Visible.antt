-- Values of fields that are visible text.
use Rattle.std.proofs.Common.{◌≡◌, ℕ, List, Bool, true, false, ◌&&◌, ◌||◌, if◌then◌else◌, Option, Some, None, option_and_then, refl, sym, ap, ◌∙◌}
use Rattle.std.specs.Option.{option_map_or}
use Rattle.std.proofs.lemmas.List.Sums.{AllPass-from_list_all, list_all-from_AllPass}
use Rattle.http_header.specs.FieldValue.{FieldValue, IsVisibleAscii, is_visible_text}
use Rattle.http_header.specs.Token.{is_visible_or_blank}

pub is_visible : (bytes : List ℕ) → IsVisibleAscii bytes → is_visible_text bytes ≡ true
is_visible bytes all = list_all-from_AllPass is_visible_or_blank bytes all

no_test : (bytes : List ℕ) (test : Bool) → is_visible_text bytes ≡ test → (IsVisibleAscii bytes → ⊥) → test ≡ false
no_test bytes true is not = absurd (not (AllPass-from_list_all is_visible_or_blank bytes is))
no_test bytes false is not = refl

pub not_visible : (bytes : List ℕ) → (IsVisibleAscii bytes → ⊥) → is_visible_text bytes ≡ false
not_visible bytes not = no_test bytes (is_visible_text bytes) refl not

abbrev text_by : Option FieldValue → Option (List ℕ)
text_by o = option_and_then (λ (v : FieldValue). if is_visible_text v.bytes then Some v.bytes else None) o

pub text_some : (o : Option FieldValue) (value : FieldValue) (text : List ℕ) → Some value ≡ o → text ≡ value.bytes → IsVisibleAscii value.bytes → Some text ≡ text_by o
text_some o value text is same visible =
    ap Some same ∙ ap (λ b. if b then Some value.bytes else None) (sym (is_visible value.bytes visible)) ∙ ap text_by is

pub text_none : (o : Option FieldValue) (value : FieldValue) → Some value ≡ o → (IsVisibleAscii value.bytes → ⊥) → None ≡ text_by o
text_none o value is not = ap (λ b. if b then Some value.bytes else None) (sym (not_visible value.bytes not)) ∙ ap text_by is

-- a page by its field, which is let in where it is visible and passes these tests
module _ (own other : List ℕ → Bool) where
  abbrev let_in : Option FieldValue → Bool
  let_in o = option_map_or (λ (v : FieldValue). is_visible_text v.bytes && (own v.bytes || other v.bytes)) o true

  pub let_in_as : (o : Option FieldValue) (value : FieldValue) (page : List ℕ) (is : Bool) → Some value ≡ o → page ≡ value.bytes → IsVisibleAscii value.bytes → own page ≡ false → other page ≡ is → is ≡ let_in o
  let_in_as o value page is field same visible not tells =
      sym tells ∙ ap (λ b. b || other page) (sym not) ∙ ap (λ p. own p || other p) same
      ∙ ap (λ b. b && (own value.bytes || other value.bytes)) (sym (is_visible value.bytes visible)) ∙ ap let_in field

  pub not_let_in : (o : Option FieldValue) (value : FieldValue) → Some value ≡ o → (IsVisibleAscii value.bytes → ⊥) → false ≡ let_in o
  not_let_in o value field not = ap (λ b. b && (own value.bytes || other value.bytes)) (sym (not_visible value.bytes not)) ∙ ap let_in field
