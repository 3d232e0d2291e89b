-- The siblings before a child, one more at a time.
use Rattle.std.proofs.Common.{◌≡◌, ℕ, suc, ◌+◌, ◌≤◌, Bool, true, false, ◌&&◌, cond, List, [], ◌∷◌, ◌++◌, Option, Some, None, refl, sym, ◌∙◌, ap, subst, arith, zero-add, add-zero, count_by, codes, unwrap_or}
use Rattle.std.specs.BTreeMap.{get_by}
use Rattle.std.specs.Cmp.Lexicographic.{nat_list_eq_equiv, slice_cmp}
use Rattle.std.specs.Ordering.{nat_cmp}
use Rattle.std.specs.List.{range_with_len}
use Rattle.std.specs.Str.{bytes_eq}
use Rattle.std.proofs.lemmas.Bool.{and_parts, eqb-true}
use Rattle.std.proofs.lemmas.List.FromFn.{length-range_with_len}
use Rattle.std.proofs.lemmas.List.Sums.{sum_by-append, count_by-le-length}
use Rattle.std.proofs.lemmas.Slice.Eq.{bytes_eq-Decides}
use Rattle.page_tree.proofs.Numbers.{range-append}
use Rattle.page_tree.specs.Tree.{Tree}
use Rattle.page_tree.specs.Look.{name_at}
use Rattle.xpath_child.specs.Path.{Step, index_text, step_text}
use Rattle.xpath_child.specs.Reaches.{matches, matching_before, is_nth, selects}
use Rattle.site_hooks.specs.Siblings.{count_named, counted, AreBefore}
use Rattle.site_hooks.specs.Walk.{before_test, IsPicked}
use Rattle.site_hooks.specs.declared.siblings.Siblings.{Siblings}

-- a count that was put, one more than it was
count_as : (b : Bool) (count other : ℕ) → (b ≡ true → count ≡ other) → (o : Option ℕ) → other ≡ unwrap_or o 0 → unwrap_or (cond b (Some (count + 1)) o) 0 ≡ cond b (other + 1) other
count_as true count other same o is = ap (λ n. n + 1) (same refl)
count_as false count other same o is = sym is

pub count_put : (siblings : Siblings) (name other : List ℕ) (count : ℕ) → count ≡ count_named siblings name
    → unwrap_or (cond (bytes_eq name other) (Some (count + 1)) (get_by (λ own. slice_cmp nat_cmp other own.now) siblings.named)) 0 ≡ cond (bytes_eq name other) (count_named siblings other + 1) (count_named siblings other)
count_put siblings name other count is =
    count_as (bytes_eq name other) count (count_named siblings other) (λ same. is ∙ ap (count_named siblings) ((bytes_eq-Decides name other).0 same)) _ refl

module _ (page : Tree) (at : List ℕ) where
  before_next : (test : Option (List ℕ)) (i : ℕ) → matching_before page test at (i + 1) ≡ matching_before page test at i + cond (matches test (name_at (at ++ i ∷ []) page)) 1 0
  before_next test i =
      ap (count_by (λ k. matches test (name_at (at ++ k ∷ []) page))) (range-append 0 i 1 ∙ ap (λ k. range_with_len 0 i ++ range_with_len k 1) (zero-add i))
      ∙ sum_by-append (λ k. cond (matches test (name_at (at ++ k ∷ []) page)) 1 0) (range_with_len 0 i) (i ∷ []) ∙ ap (λ n. matching_before page test at i + n) (zero-add _)

  before_few : (test : Option (List ℕ)) (i : ℕ) → matching_before page test at i ≤ i
  before_few test i = omega (arith, count_by-le-length (λ k. matches test (name_at (at ++ k ∷ []) page)) (range_with_len 0 i), length-range_with_len 0 i)

  -- so few, by the number of the child
  pub few_counted : (i : ℕ) (siblings : Siblings) (test : Option (List ℕ)) → AreBefore page at i siblings → counted siblings test ≤ i
  few_counted i siblings test are = omega (arith, are test, before_few test i)

  -- behind a text as before it
  pub text_counted : (i : ℕ) (siblings : Siblings) → name_at (at ++ i ∷ []) page ≡ None → AreBefore page at i siblings → AreBefore page at (i + 1) siblings
  text_counted i siblings none are = λ test.
      are test ∙ sym (before_next test i ∙ ap (λ name. matching_before page test at i + cond (matches test name) 1 0) none ∙ add-zero (matching_before page test at i))

  -- behind an element one more
  module _ (i : ℕ) (old new : Siblings) (name : List ℕ) (is : name_at (at ++ i ∷ []) page ≡ Some name) (are : AreBefore page at i old) (elements : new.elements ≡ old.elements + 1)
      (named : (other : List ℕ) → count_named new other ≡ cond (bytes_eq name other) (count_named old other + 1) (count_named old other)) where
    either_more : (b : Bool) (n : ℕ) → cond b (n + 1) n ≡ n + cond b 1 0
    either_more true n = refl
    either_more false n = omega arith

    behind_next : (test : Option (List ℕ)) → matching_before page test at (i + 1) ≡ counted old test + cond (matches test (Some name)) 1 0
    behind_next test = before_next test i ∙ ap (λ o. matching_before page test at i + cond (matches test o) 1 0) is ∙ ap (λ n. n + cond (matches test (Some name)) 1 0) (sym (are test))

    pub element_counted : AreBefore page at (i + 1) new
    element_counted None = elements ∙ sym (behind_next None)
    element_counted (Some other) =
        named other ∙ ap (λ b. cond b (count_named old other + 1) (count_named old other)) (nat_list_eq_equiv.symm name other)
        ∙ either_more (bytes_eq other name) (count_named old other) ∙ sym (behind_next (Some other))

  -- what selects the child picks it by these counts
  module _ (i : ℕ) (siblings : Siblings) (name : List ℕ) (same elements : ℕ) (is : name_at (at ++ i ∷ []) page ≡ Some name) (are : AreBefore page at i siblings)
      (same_is : same ≡ count_named siblings name) (elements_is : elements ≡ siblings.elements) where
    counts_by : (test : Option (List ℕ)) → matches test (Some name) ≡ true → matching_before page test at i ≡ before_test same elements test
    counts_by None fits = sym (elements_is ∙ are None)
    counts_by (Some wanted) fits =
        let same_name = (bytes_eq-Decides wanted name).0 fits in
        sym (same_is ∙ ap (count_named siblings) (sym same_name) ∙ are (Some wanted))

    pub selected_picked : (step : Step) → selects page step at i ≡ true → IsPicked name same elements step
    selected_picked step passes =
        let now : (matches step.test (Some name) && is_nth step.index (matching_before page step.test at i)) ≡ true =
        ap (λ o. matches step.test o && is_nth step.index (matching_before page step.test at i)) (sym is) ∙ passes in
        ap (λ n. matches step.test (Some name) && is_nth step.index n) (sym (counts_by step.test (and_parts _ _ now).0)) ∙ now

    -- and what picks it selects it
    pub picked_selected : (step : Step) → IsPicked name same elements step → selects page step at i ≡ true
    picked_selected step picked =
        ap (λ o. matches step.test o && is_nth step.index (matching_before page step.test at i)) is
        ∙ ap (λ n. matches step.test (Some name) && is_nth step.index n) (counts_by step.test (and_parts _ _ picked).0) ∙ picked

-- what picks a child before which nothing stands picks the root
pub picked_root : (page : Tree) (name : List ℕ) (step : Step) → name_at [] page ≡ Some name → IsPicked name 0 0 step → (matches step.test (name_at [] page) && is_nth step.index 0) ≡ true
picked_root page name step is picked = ap (λ o. matches step.test o && is_nth step.index 0) is ∙ root step.test picked
  where
    root : (test : Option (List ℕ)) → (matches test (Some name) && is_nth step.index (before_test 0 0 test)) ≡ true → (matches test (Some name) && is_nth step.index 0) ≡ true
    root None h = h
    root (Some wanted) h = h

-- ---- the four texts that a step which picks a child can have

module _ (name : List ℕ) (same elements : ℕ) (P : List ℕ → Type 0) where
  index_is : (n before : ℕ) → is_nth (Some n) before ≡ true → n ≡ before + 1
  index_is n before passes = omega (arith, eqb-true n (suc before) passes)

  by_form : (test : Option (List ℕ)) (index : Option ℕ) → (matches test (Some name) && is_nth index (before_test same elements test)) ≡ true
      → P (name ++ index_text None) → P (name ++ index_text (Some (same + 1))) → P (42 ∷ index_text None) → P (42 ∷ index_text (Some (elements + 1)))
      → P (unwrap_or test (codes "*") ++ index_text index)
  by_form None None passes a b c d = c
  by_form None (Some n) passes a b c d = subst (λ k. P (42 ∷ index_text (Some k))) (sym (index_is n elements passes)) d
  by_form (Some wanted) None passes a b c d = subst (λ t. P (t ++ [])) (sym ((bytes_eq-Decides wanted name).0 (and_parts _ _ passes).0)) a
  by_form (Some wanted) (Some n) passes a b c d =
      let both = and_parts (bytes_eq wanted name) (is_nth (Some n) same) passes in
      subst (λ t. P (t ++ index_text (Some n))) (sym ((bytes_eq-Decides wanted name).0 both.0)) (subst (λ k. P (name ++ index_text (Some k))) (sym (index_is n same both.1)) b)

  pub picked_text : (step : Step) → IsPicked name same elements step → P (name ++ index_text None) → P (name ++ index_text (Some (same + 1))) → P (42 ∷ index_text None) → P (42 ∷ index_text (Some (elements + 1)))
      → P (step_text step)
  picked_text step passes = by_form step.test step.index passes
