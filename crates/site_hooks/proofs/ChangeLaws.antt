-- When a text that is watched has changed.
use Rattle.std.proofs.Common.{◌≡◌, ◌≢◌, ◌⊎◌, ℕ, ◌+◌, ◌-◌, ◌*◌, ◌/◌, ◌%◌, ◌^◌, ◌<◌, ◌≤◌, List, [], ◌∷◌, Bool, true, false, not, Option, Some, None, option_map, inl, inr, length, get_or, refl, sym, ◌∙◌, ap, arith}
use Rattle.std.specs.Prelude.{bit_or, min}
use Rattle.std.specs.Int.{bit_at}
use Rattle.std.specs.List.{list_any}
use Rattle.std.specs.Option.{option_eq}
use Rattle.std.specs.Str.{bytes_eq}
use Rattle.std.proofs.lemmas.Bool.{cases_lt, cases_eq, false_from_ne_true}
use Rattle.std.proofs.lemmas.Nat.Bits.{bit_at_or, bit_at-lt, bit_at-zero}
use Rattle.std.proofs.lemmas.Slice.Eq.{bytes_eq-Decides}
use Rattle.std.proofs.lemmas.List.{get_or_past, get_or_default}
use Rattle.std.proofs.lemmas.List.Folds.{list_any_at, Any-from_list_any}
use Rattle.page_tree.specs.Tree.{Tree}
use Rattle.page_tree.specs.Look.{text_at}
use Rattle.xpath_child.specs.Path.{Step}
use Rattle.xpath_child.specs.Targets.{target_in, place_found, only_place}
use Rattle.xpath_child.specs.declared.path.Found.{Found}
use Rattle.xpath_child.specs.declared.path.Found.TheVariants as variant
use Rattle.xpath_child.specs.declared.path.Target.{Target}
use Rattle.site_hooks.specs.Findings.{found_by, AreFound, found_differ, differ_by}
use Rattle.site_hooks.specs.Sets.{Has, IsOfBits}
use Rattle.site_hooks.specs.declared.findings.Findings.{Findings}
use Rattle.site_hooks.specs.Table.{watched_text, is_changed}

same_texts : (text : Option (List ℕ)) → option_eq bytes_eq text text ≡ true
same_texts None = refl
same_texts (Some text) = (bytes_eq-Decides text text).1 refl

-- nothing has where nothing is watched
pub none_watched : (test : List Step → Bool) (paths : List (List Step)) → length paths ≡ 0 → false ≡ list_any test paths
none_watched test [] none = refl
none_watched test (path ∷ paths) none = absurd (omega (arith, none))

-- nor on one page
pub unchanged : (page : Tree) (paths : List (List Step)) → list_any (is_changed page page) paths ≡ false
unchanged page [] = refl
unchanged page (path ∷ paths) = rw (same_texts (watched_text page path)) (unchanged page paths)

-- there is none past the last one
pub any_at : (old new : Tree) (paths : List (List Step)) (k : ℕ) → is_changed old new (get_or paths k []) ≡ true → list_any (is_changed old new) paths ≡ true
any_at old new paths k passes = elim (cases_lt k (length paths)) [
  | inl less ↦ list_any_at (is_changed old new) paths k [] less passes
  | inr past ↦ let none : true ≡ false = sym passes ∙ ap (is_changed old new) (get_or_past paths k [] past) in cc
]

-- ---- what was found on both pages

abbrev texts_differ : Tree → Target → Tree → Target → Bool
texts_differ old before new after = not (option_eq bytes_eq (option_map (λ place. text_at place old) (only_place before)) (option_map (λ place. text_at place new) (only_place after)))

module _ (old new : Tree) (paths : List (List Step)) (before after : Findings) (on_old : AreFound old paths before) (on_new : AreFound new paths after) where
  changed_at : (k : ℕ) → differ_by old before new after k ≡ is_changed old new (get_or paths k [])
  changed_at k = ap (λ t. texts_differ old t new (place_found new (found_by after k))) (on_old k) ∙ ap (texts_differ old (target_in (get_or paths k []) old) new) (on_new k)

  pub some_changed : (k : ℕ) → differ_by old before new after k ≡ true → list_any (is_changed old new) paths ≡ true
  some_changed k passes = any_at old new paths k (sym (changed_at k) ∙ passes)

  pub none_changed : ((k : ℕ) → differ_by old before new after k ≡ false) → list_any (is_changed old new) paths ≡ false
  none_changed none = false_from_ne_true _ (λ passes.
      let found = Any-from_list_any (is_changed old new) paths passes in
      let same = sym (changed_at found.0) ∙ none found.0 in
      let clash : true ≡ false = sym found.4 ∙ ap (is_changed old new) (sym found.3) ∙ ap (is_changed old new) (get_or_default paths found.0 found.1 [] found.2) ∙ same in cc)

-- nothing on both
pub none_differ : (old new : Tree) (before after : Findings) (k : ℕ) → found_by before k ≡ variant.Missing → found_by after k ≡ variant.Missing → differ_by old before new after k ≡ false
none_differ old new before after k none_before none_after =
    ap (λ f. found_differ old f new (found_by after k)) none_before ∙ ap (λ f. found_differ old variant.Missing new f) none_after

-- by none of the words
pub past_reached : (findings : Findings) (k : ℕ) → length findings.reached.items ≤ k / 64 → found_by findings k ≡ variant.Missing
unfolding Has
past_reached findings k past = findings.none k (λ has. omega (arith, has, ap (λ w. bit_at w (k % 64)) (get_or_past findings.reached.items (k / 64) 0 past) ∙ bit_at-zero (k % 64)))

-- nor by the bits of one word
pub none_reached : (before after : Findings) (index bits k : ℕ) → bits ≡ bit_or (get_or before.reached.items index 0) (get_or after.reached.items index 0) → index ≡ k / 64 → ¬ (bit_at bits (k % 64) ≡ 1)
    → (found_by before k ≡ variant.Missing) × (found_by after k ≡ variant.Missing)
unfolding Has
none_reached before after index bits k are is not =
    let a = get_or before.reached.items index 0 in
    let b = get_or after.reached.items index 0 in
    let either = ap (λ b. bit_at b (k % 64)) are ∙ bit_at_or a b (k % 64) in (
      before.none k (λ has. not (omega (arith, either, bit_at-lt b (k % 64), ap (λ j. bit_at (get_or before.reached.items j 0) (k % 64)) is ∙ has))),
      after.none k (λ has. not (omega (arith, either, bit_at-lt a (k % 64), ap (λ j. bit_at (get_or after.reached.items j 0) (k % 64)) is ∙ has))),
    )

-- ---- the paths of one word, one after another

module _ (old new : Tree) (before after : Findings) (index bit number : ℕ) (number_is : number ≡ min (min (index * 64) (2 ^ 64 - 1) + bit) (2 ^ 64 - 1))
    (few_before : length before.found.items < 2 ^ 63) (few_after : length after.found.items < 2 ^ 63) (a b : Found) (a_is : a ≡ found_by before number) (b_is : b ≡ found_by after number)
    (now : found_differ old a new b ≡ false) where
  this_same : (k : ℕ) → k ≡ index * 64 + bit → differ_by old before new after k ≡ false
  this_same k is = elim (cases_lt k (2 ^ 64 - 1)) [
    | inl small ↦
        let same : number ≡ k = omega (arith, number_is, is, small) in
        ap (differ_by old before new after) (sym same) ∙ ap (λ f. found_differ old f new (found_by after number)) (sym a_is) ∙ ap (found_differ old a new) (sym b_is) ∙ now
    | inr past ↦ none_differ old new before after k (get_or_past before.found.items k variant.Missing (omega (arith, past, few_before))) (get_or_past after.found.items k variant.Missing (omega (arith, past, few_after)))
  ]

  pub next_same : (bits left next : ℕ) → ((i : ℕ) → i < 64 → i ≢ bit → bit_at next i ≡ bit_at left i)
      → ((k : ℕ) → IsOfBits index bits k → (bit_at left (k % 64) ≡ 1) ⊎ (differ_by old before new after k ≡ false))
      → (k : ℕ) → IsOfBits index bits k → (bit_at next (k % 64) ≡ 1) ⊎ (differ_by old before new after k ≡ false)
  next_same bits left next others each = λ k of. elim (each k of) [
    | inr done ↦ inr done
    | inl waits ↦ elim (cases_eq (k % 64) bit) [
      | inl same ↦ inr (this_same k (omega (arith, of.0, same)))
      | inr other ↦ inl (others (k % 64) (omega arith) other ∙ waits)
    ]
  ]
