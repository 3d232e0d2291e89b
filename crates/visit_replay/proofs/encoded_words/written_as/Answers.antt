use Rattle.std.proofs.Common.{◌≡◌, ◌≢◌, ℕ, ◌<◌, ◌==◌, [], ◌∷◌, Bool, true, false, if◌then◌else◌, map, get_or, refl, sym, ap, ◌∙◌, arith}
use Rattle.std.proofs.lemmas.List.FromFn.{get_or-map-range_with_len}
use Rattle.std.specs.List.{range_with_len}
use Rattle.form_urlencoded.specs.Form.{is_unchanged, serialize_byte}
use Rattle.form_urlencoded.specs.Percent.{percent_encode_byte}
use Rattle.visit_replay.specs.declared.encoded_words.TheConstants.{WRITTEN}
use Rattle.visit_replay.proofs.encoded_words.written_as.Goals as goal

abbrev one_for : ℕ → ℕ
one_for b = if is_unchanged b then b else (if b == 32 then 43 else 0)

table_is : WRITTEN ≡ map one_for (range_with_len 0 256)
table_is = refl

written : (b : ℕ) → one_for b ≢ 0 → serialize_byte b ≡ one_for b ∷ []
written b = go (is_unchanged b) (b == 32)
  where
    go : (same space : Bool) → (if same then b else (if space then 43 else 0)) ≢ 0
        → (if same then b ∷ [] else (if space then 43 ∷ [] else percent_encode_byte b)) ≡ (if same then b else (if space then 43 else 0)) ∷ []
    go true space some = refl
    go false true some = refl
    go false false some = absurd (some refl)

escaped : (b : ℕ) → one_for b ≡ 0 → serialize_byte b ≡ percent_encode_byte b
escaped b = go (is_unchanged b) refl (b == 32)
  where
    go : (same : Bool) → is_unchanged b ≡ same → (space : Bool) → (if same then b else (if space then 43 else 0)) ≡ 0
        → (if same then b ∷ [] else (if space then 43 ∷ [] else percent_encode_byte b)) ≡ percent_encode_byte b
    go true is space none = let never : false ≡ true = ap is_unchanged (sym none) ∙ is in cc
    go false is true none = absurd (omega (arith, none))
    go false is false none = refl

there : (b : ℕ) → b < 256 → get_or WRITTEN b 0 ≡ one_for b
there b small = ap (λ t. get_or t b 0) table_is ∙ get_or-map-range_with_len one_for 0 256 b b 0 small (omega arith)

pub returns-clause-one : goal.returns-clause-one
returns-clause-one c = λ some.
    let is = there c.args.byte (omega arith) in
    written c.args.byte (λ none. some (is ∙ none)) ∙ ap (λ n. n ∷ []) (sym is)

pub returns-clause-escaped : goal.returns-clause-escaped
returns-clause-escaped c = λ none. escaped c.args.byte (sym (there c.args.byte (omega arith)) ∙ none)
