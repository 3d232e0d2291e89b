-- The visits below one, from the last place to the first, and the links between them.
use Rattle.std.proofs.Common.{◌≡◌, ◌≢◌, ℕ, zero, suc, ◌+◌, ◌-◌, ◌<◌, ◌≤◌, ◌==◌, inl, inr, List, [], ◌∷◌, length, get_or, set, filter, Option, None, Some, slice_get, cond, refl, sym, ap, ◌∙◌, arith}
use Rattle.std.specs.List.{range_with_len}
use Rattle.std.specs.Option.{option_or}
use Rattle.std.proofs.lemmas.Bool.{eq-eqb, ne_eqb, cases_eq, cases_lt}
use Rattle.std.proofs.lemmas.List.{get_or-set_same, get_or-set_other, length-set}
use Rattle.visit_tree.specs.inside.Siblings.{slot_at, siblings_from, AreFirsts, AreNexts}
use Rattle.visit_tree.proofs.Openers.{opener_cases}

-- ---- one place more

module _ (parents : List (Option ℕ)) (slot : ℕ) where
  pub none_at_end : siblings_from parents slot (length parents) ≡ []
  unfolding siblings_from
  none_at_end =
      let no : length parents - length parents ≡ 0 = omega arith in
      ap (λ n. filter (λ p. slot_at parents p == slot) (range_with_len (length parents) n)) no

  one_place : (place : ℕ) → place < length parents → siblings_from parents slot place
      ≡ cond (slot_at parents place == slot) (place ∷ siblings_from parents slot (place + 1)) (siblings_from parents slot (place + 1))
  unfolding siblings_from
  one_place place within =
      let more : length parents - place ≡ suc (length parents - (place + 1)) = omega arith in
      ap (λ n. filter (λ p. slot_at parents p == slot) (range_with_len place n)) more

  pub own_sibling : (place : ℕ) → place < length parents → slot_at parents place ≡ slot
      → siblings_from parents slot place ≡ place ∷ siblings_from parents slot (place + 1)
  own_sibling place within own = one_place place within
      ∙ ap (λ b. cond b (place ∷ siblings_from parents slot (place + 1)) (siblings_from parents slot (place + 1))) (eq-eqb _ _ own)

  pub other_sibling : (place : ℕ) → place < length parents → slot_at parents place ≢ slot
      → siblings_from parents slot place ≡ siblings_from parents slot (place + 1)
  other_sibling place within other = one_place place within
      ∙ ap (λ b. cond b (place ∷ siblings_from parents slot (place + 1)) (siblings_from parents slot (place + 1))) (ne_eqb _ _ other)

-- no visit stands before the one that opened it
not_before : (parents : List (Option ℕ)) (place k : ℕ) → place ≤ k → k < length parents → slot_at parents place ≢ k
not_before parents place k before within is = elim (opener_cases parents place) [
  | inl none ↦ absurd (omega (arith, none.slot, is))
  | inr opener ↦ absurd (omega (arith, opener.1.slot, opener.1.less, is))
]

pub below_is_behind : (parents : List (Option ℕ)) (k n : ℕ) → k < length parents → n ≤ k + 1
    → siblings_from parents k 0 ≡ siblings_from parents k n
below_is_behind parents k zero within few = refl
below_is_behind parents k (suc n) within few =
    below_is_behind parents k n within (omega arith)
    ∙ other_sibling parents k n (omega arith) (not_before parents n k (omega arith) within)
    ∙ (let more : n + 1 ≡ suc n = omega arith in ap (siblings_from parents k) more)

-- ---- the links

module _ (parents : List (Option ℕ)) (firsts nexts : List (Option ℕ)) (place : ℕ) (within : place < length parents) where
  slot_within : slot_at parents place ≤ length parents
  slot_within = elim (opener_cases parents place) [
    | inl none ↦ omega (arith, none.slot)
    | inr opener ↦ omega (arith, opener.1.slot, opener.1.less)
  ]

  abbrev new_firsts : List (Option ℕ)
  new_firsts = set firsts (slot_at parents place) (Some place)

  pub first_linked : AreFirsts parents (place + 1) firsts → AreFirsts parents place new_firsts
  first_linked are = record {
    count = length-set firsts (slot_at parents place) (Some place) ∙ are.count;
    each = λ slot below. elim (cases_eq (slot_at parents place) slot) [
      | inl own ↦
          rw (own_sibling parents slot place within own, own)
          (get_or-set_same firsts slot (Some place) None (omega (arith, are.count)))
      | inr other ↦
          rw (other_sibling parents slot place within other)
          (get_or-set_other firsts (slot_at parents place) slot (Some place) None (λ is. other (sym is)) ∙ are.each slot below)
    ];
  }

  pub next_linked : AreFirsts parents (place + 1) firsts → AreNexts parents (place + 1) nexts
      → AreNexts parents place (set nexts place (get_or firsts (slot_at parents place) None))
  next_linked firsts_are are = record {
    count = length-set nexts place (get_or firsts (slot_at parents place) None) ∙ are.count;
    each = λ k from below. elim (cases_eq k place) [
      | inl here ↦
          rw here (get_or-set_same nexts place (get_or firsts (slot_at parents place) None) None (omega (arith, are.count))
          ∙ firsts_are.each (slot_at parents place) slot_within)
      | inr there ↦
          get_or-set_other nexts place k (get_or firsts (slot_at parents place) None) None there
          ∙ are.each k (omega arith) below
    ];
  }

pub no_firsts : (parents firsts : List (Option ℕ)) → length firsts ≡ length parents + 1
    → ((slot : ℕ) → get_or firsts slot None ≡ None) → AreFirsts parents (length parents) firsts
no_firsts parents firsts count none = record {
  count = count;
  each = λ slot below. none slot ∙ sym (ap (λ places. slice_get places 0) (none_at_end parents slot));
}

pub no_nexts : (parents nexts : List (Option ℕ)) → length nexts ≡ length parents → AreNexts parents (length parents) nexts
no_nexts parents nexts count = record { count = count; each = λ k from below. absurd (omega arith) }

-- ---- what follows each

-- those before that place are followed, the others are as they were
pub record AreFollowersTo (parents nexts : List (Option ℕ)) (place : ℕ) (followers : List (Option ℕ)) : Type 0 where
  pub count : length followers ≡ length nexts
  pub passed : (k : ℕ) → k < place → get_or followers k None
      ≡ option_or (get_or nexts k None) (get_or followers (slot_at parents k) None)
  pub rest : (k : ℕ) → place ≤ k → get_or followers k None ≡ get_or nexts k None

module _ (parents nexts followers : List (Option ℕ)) (place : ℕ) (within : place < length parents)
    (long : length nexts ≡ length parents) (are : AreFollowersTo parents nexts place followers)
    (next : Option ℕ) (is : next ≡ option_or (get_or followers place None) (get_or followers (slot_at parents place) None)) where
  slot_is_other : (k : ℕ) → k ≤ place → slot_at parents k ≢ place
  slot_is_other k before = not_before parents k place before within

  kept : (k : ℕ) → k ≢ place → get_or (set followers place next) k None ≡ get_or followers k None
  kept k other = get_or-set_other followers place k next None other

  passed_here : get_or (set followers place next) place None
      ≡ option_or (get_or nexts place None) (get_or (set followers place next) (slot_at parents place) None)
  passed_here =
      get_or-set_same followers place next None (omega (arith, are.count)) ∙ is
      ∙ ap (λ o. option_or o (get_or followers (slot_at parents place) None)) (are.rest place (omega arith))
      ∙ sym (ap (option_or (get_or nexts place None)) (kept (slot_at parents place) (slot_is_other place (omega arith))))

  passed_before : (k : ℕ) → k < place → get_or (set followers place next) k None
      ≡ option_or (get_or nexts k None) (get_or (set followers place next) (slot_at parents k) None)
  passed_before k before =
      kept k (omega arith) ∙ are.passed k before
      ∙ sym (ap (option_or (get_or nexts k None)) (kept (slot_at parents k) (slot_is_other k (omega arith))))

  pub one_passed : AreFollowersTo parents nexts (place + 1) (set followers place next)
  one_passed = record {
    count = length-set followers place next ∙ are.count;
    passed = λ k less. elim (cases_lt k place) [
      | inl before ↦ passed_before k before
      | inr here ↦ let at : k ≡ place = omega arith in rw at passed_here
    ];
    rest = λ k from. kept k (omega arith) ∙ are.rest k (omega arith);
  }
