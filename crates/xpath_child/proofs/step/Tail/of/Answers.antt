use Rattle.std.proofs.Common.{◌≡◌, ℕ, ◌+◌, ◌<◌, List, ◌∷◌, true, length, drop, get_or, Some, option_map, refl, sym, ap, ◌∙◌, arith}
use Rattle.std.specs.Option.{option_map_or}
use Rattle.std.specs.Str.Parse.{digits_value}
use Rattle.std.proofs.lemmas.Str.{lead_after_ascii}
use Rattle.std.proofs.lemmas.List.{at_drop_more}
use Rattle.xpath_child.specs.Fault.{index_part, is_closed_index, front}
use Rattle.xpath_child.specs.inside.Search.{first_in, left_in}
use Rattle.xpath_child.proofs.Cut.{first_closed}
use Rattle.xpath_child.proofs.Matched.{test_at, at_slash, at_bracket, at_mark}
use Rattle.xpath_child.proofs.step.Tail.of.Goals as goal

-- a byte of a text, and what is left from it on
at_byte : (text shown : List ℕ) (end c : ℕ) → shown ≡ text → end < length shown → c ≡ get_or shown end 0 → (end < length text) × (get_or text end 0 ≡ c) × (drop end text ≡ c ∷ drop (end + 1) text)
at_byte text shown end c same inside is =
    let within : end < length text = omega (arith, inside, ap length same) in
    let byte = sym (is ∙ ap (λ t. get_or t end 0) same) in
    (within, byte, at_drop_more (λ l. l) text end 0 within ∙ ap (λ b. b ∷ drop (end + 1) text) byte)

-- what stands behind a `[`, as it was cut off
part_is : (text shown : List ℕ) (end c : ℕ) (more : List ℕ) → shown ≡ text → end < length shown → c ≡ get_or shown end 0 → c ≡ 91 → end ≡ length (test_at text) → more ≡ drop (end + 1) text
    → (index_part (first_in text) ≡ Some (first_in more)) × (left_in text ≡ left_in more)
part_is text shown end c more same inside is bracket ends behind =
    at_bracket text end ends more ((at_byte text shown end c same inside is).2 ∙ ap (λ b. b ∷ drop (end + 1) text) bracket ∙ ap (λ t. 91 ∷ t) (sym behind))

pub range_from-requires : goal.range_from-requires
range_from-requires c =
    let lookup = c.in-Some-eq91.ensures.lookup in
    let byte = at_byte c.args.steps.now c.as_bytes.result.now c.args.end c.in-Some-eq91.field-0.now c.as_bytes.ensures.value lookup.3.0 (lookup.3.1 0) in
    λ some. (omega (arith, byte.0), lead_after_ascii c.args.steps.now c.args.end c.utf8.steps (omega (arith, byte.1, c.in-Some-eq91.field-0-test)))

pub range_from-requires-in-Some : goal.range_from-requires-in-Some
range_from-requires-in-Some c =
    let lookup = c.in-Some.ensures.lookup in
    let byte = at_byte c.args.steps.now c.as_bytes.result.now c.args.end c.in-Some.field-0.now c.as_bytes.ensures.value lookup.3.0 (lookup.3.1 0) in
    let slash = at_mark c.args.steps.now c.args.end c.requires.end c.in-Some.field-0.now (drop (c.args.end + 1) c.args.steps.now) byte.2 c.in-Some.field-0-test.1 in
    λ some. (omega (arith, byte.0), lead_after_ascii c.args.steps.now c.args.end c.utf8.steps (omega (arith, byte.1, slash)))

pub closed_index-requires : goal.closed_index-requires
closed_index-requires c =
    let text = c.args.steps.now in
    let lookup = c.in-Some-eq91.ensures.lookup in
    let part = part_is text c.as_bytes.result.now c.args.end c.in-Some-eq91.field-0.now c.range_from.result.now c.as_bytes.ensures.value lookup.3.0 (lookup.3.1 0) c.in-Some-eq91.field-0-test c.requires.end c.range_from.ensures.value in
    ap is_closed_index c.cut.ensures.before ∙ sym (ap (λ o. option_map_or is_closed_index o true) part.0) ∙ first_closed text (first_in text) (left_in text) refl refl c.requires.steps

pub returns-in-Some-eq91 : goal.returns-in-Some-eq91
returns-in-Some-eq91 c =
    let text = c.args.steps.now in
    let lookup = c.in-Some-eq91.ensures.lookup in
    let part = part_is text c.as_bytes.result.now c.args.end c.in-Some-eq91.field-0.now c.range_from.result.now c.as_bytes.ensures.value lookup.3.0 (lookup.3.1 0) c.in-Some-eq91.field-0-test c.requires.end c.range_from.ensures.value in
    record {
      index = ap Some (c.closed_index.ensures ∙ ap (λ t. digits_value 10 (front t)) c.cut.ensures.before) ∙ sym (ap (option_map (λ r. digits_value 10 (front r))) part.0);
      rest = c.cut.ensures.after ∙ sym part.1;
    }

pub returns-in-Some : goal.returns-in-Some
returns-in-Some c =
    let text = c.args.steps.now in
    let more = drop (c.args.end + 1) text in
    let lookup = c.in-Some.ensures.lookup in
    let byte = at_byte text c.as_bytes.result.now c.args.end c.in-Some.field-0.now c.as_bytes.ensures.value lookup.3.0 (lookup.3.1 0) in
    let slash = at_mark text c.args.end c.requires.end c.in-Some.field-0.now more byte.2 c.in-Some.field-0-test.1 in
    let behind = at_slash text c.args.end c.requires.end more (byte.2 ∙ ap (λ b. b ∷ more) slash) in
    record { index = sym (ap (option_map (λ r. digits_value 10 (front r))) behind.0); rest = ap Some c.range_from-in-Some.ensures.value ∙ sym behind.1 }
