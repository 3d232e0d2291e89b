-- The visits in their order, by the links between them.
use Rattle.std.proofs.Common.{◌≡◌, ℕ, zero, suc, ◌+◌, ◌-◌, ◌<◌, ◌≤◌, ◌==◌, inl, inr, List, [], ◌∷◌, ◌++◌, length, get_or, take, drop, filter, nat_eq, Option, None, Some, slice_get, cond, Bool, refl, sym, ap, subst, ◌∙◌, arith}
use Rattle.std.specs.List.{range_with_len, flat_map, AllByRecursion}
use Rattle.std.specs.Option.{option_or, option_eq, unwrap_or}
use Rattle.std.proofs.lemmas.Bool.{eq-eqb, ne_eqb, cases_eq}
use Rattle.std.proofs.lemmas.List.{take_more, drop_more, take_all, length_push, length-drop, get_or_past}
use Rattle.std.proofs.lemmas.Option.{none-some, same_Some}
use Rattle.visit_tree.specs.Tree.{opener_at, opened_by, family, tree_order}
use Rattle.visit_tree.specs.inside.Siblings.{slot_at, siblings_from, IsLinked}
use Rattle.visit_tree.proofs.Openers.{opener_cases}
use Rattle.visit_tree.proofs.Siblings.{none_at_end, own_sibling, other_sibling, below_is_behind}

-- ---- those that one opened are those below it

same_passing : (p q : ℕ → Bool) (from count : ℕ) → ((k : ℕ) → k < from + count → p k ≡ q k)
    → filter p (range_with_len from count) ≡ filter q (range_with_len from count)
same_passing p q from zero same = refl
same_passing p q from (suc count) same =
    let rest = same_passing p q (from + 1) count (λ k less. same k (omega arith)) in
    ap (λ b. cond b (from ∷ filter p (range_with_len (from + 1) count)) (filter p (range_with_len (from + 1) count))) (same from (omega arith))
    ∙ ap (λ places. cond (q from) (from ∷ places) places) rest

module _ (parents : List (Option ℕ)) where
  opened_as_slot : (k slot : ℕ) (opener : Option ℕ) → k < length parents → unwrap_or opener (length parents) ≡ slot
      → ((p : ℕ) → opener ≡ Some p → p < length parents)
      → option_eq nat_eq (opener_at parents k) opener ≡ (slot_at parents k == slot)
  opened_as_slot k slot None within is less = elim (opener_cases parents k) [
    | inl none ↦ rw none.is (sym (eq-eqb (length parents) slot is))
    | inr opener ↦ rw opener.1.is (sym (ne_eqb opener.0 slot (λ same. absurd (omega (arith, opener.1.less, same, is)))))
  ]
  opened_as_slot k slot (Some p) within is less = elim (opener_cases parents k) [
    | inl none ↦ rw none.is (sym (ne_eqb (length parents) slot (λ same. absurd (omega (arith, less p refl, same, is)))))
    | inr opener ↦ rw opener.1.is (ap (nat_eq opener.0) is)
  ]

  opened_are : (slot : ℕ) (opener : Option ℕ) → unwrap_or opener (length parents) ≡ slot
      → ((p : ℕ) → opener ≡ Some p → p < length parents) → opened_by parents opener ≡ siblings_from parents slot 0
  unfolding siblings_from
  opened_are slot opener is less =
      let all : length parents - 0 ≡ length parents = omega arith in
      same_passing (λ k. option_eq nat_eq (opener_at parents k) opener) (λ k. slot_at parents k == slot) 0 (length parents)
      (λ k within. opened_as_slot k slot opener (omega arith) is less)
      ∙ sym (ap (λ n. filter (λ p. slot_at parents p == slot) (range_with_len 0 n)) all)

  pub opened_by_none : opened_by parents None ≡ siblings_from parents (length parents) 0
  opened_by_none = opened_are (length parents) None refl (λ p is. absurd (none-some p is))

  pub opened_by_one : (k : ℕ) → k < length parents → opened_by parents (Some k) ≡ siblings_from parents k (k + 1)
  opened_by_one k within =
      opened_are k (Some k) refl (λ p is. omega (arith, same_Some k p is)) ∙ below_is_behind parents k (k + 1) within (omega arith)

-- ---- a family is the same at any depth that suffices

all_of : {P Q : ℕ → Type 0} → ((x : ℕ) → P x → Q x) → (xs : List ℕ) → AllByRecursion P xs → AllByRecursion Q xs
all_of f [] all = tt
all_of f (x ∷ xs) all = (f x all.0, all_of f xs all.1)

same_families : (f g : ℕ → List ℕ) (xs : List ℕ) → AllByRecursion (λ x. f x ≡ g x) xs → flat_map f xs ≡ flat_map g xs
same_families f g [] all = refl
same_families f g (x ∷ xs) all = ap (λ front. front ++ flat_map f xs) all.0 ∙ ap (λ rest. g x ++ rest) (same_families f g xs all.1)

module _ (parents : List (Option ℕ)) where
  -- places of visits, from there on
  abbrev IsFrom : ℕ → ℕ → Type 0
  IsFrom place k = (place ≤ k) × (k < length parents)

  all_further : (place : ℕ) (xs : List ℕ) → AllByRecursion (IsFrom (place + 1)) xs → AllByRecursion (IsFrom place) xs
  all_further place xs all = all_of (λ (x : ℕ) (from : IsFrom (place + 1) x). (omega (arith, from.0), from.1)) xs all

  all_from : (slot place count : ℕ) → place + count ≡ length parents → AllByRecursion (IsFrom place) (siblings_from parents slot place)
  all_from slot place zero is =
      let end : place ≡ length parents = omega arith in
      rw (end, none_at_end parents slot) tt
  all_from slot place (suc count) is =
      let rest = all_further place (siblings_from parents slot (place + 1)) (all_from slot (place + 1) count (omega arith)) in
      let here : IsFrom place place = (omega arith, omega arith) in
      elim (cases_eq (slot_at parents place) slot) [
        | inl own ↦ rw (own_sibling parents slot place (omega arith) own) (here, rest)
        | inr other ↦ rw (other_sibling parents slot place (omega arith) other) rest
      ]

  behind : (k : ℕ) → k < length parents → AllByRecursion (IsFrom (k + 1)) (opened_by parents (Some k))
  behind k within =
      subst (AllByRecursion (IsFrom (k + 1))) (sym (opened_by_one parents k within))
      (all_from k (k + 1) (length parents - (k + 1)) (omega arith))

  same_depth : (d e k : ℕ) → k < length parents → length parents ≤ k + d → length parents ≤ k + e
      → family parents d k ≡ family parents e k
  unfolding family
  same_depth zero e k within deep also = absurd (omega arith)
  same_depth (suc d) zero k within deep also = absurd (omega arith)
  same_depth (suc d) (suc e) k within deep also =
      ap (λ rest. k ∷ rest) (same_families (family parents d) (family parents e) (opened_by parents (Some k))
      (all_of (λ x from. same_depth d e x from.1 (omega (arith, from.0)) (omega (arith, from.0))) (opened_by parents (Some k))
      (behind k within)))

  abbrev whole_family : ℕ → List ℕ
  whole_family k = family parents (length parents) k

  family_is : (k : ℕ) → k < length parents → whole_family k ≡ k ∷ flat_map whole_family (siblings_from parents k (k + 1))
  unfolding family
  family_is k within =
      same_depth (length parents) (suc (length parents)) k within (omega arith) (omega arith)
      ∙ ap (λ ws. k ∷ flat_map whole_family ws) (opened_by_one parents k within)

-- ---- the way along the links

module _ (count : ℕ) (next : ℕ → Option ℕ) where
  -- from there one gets to these places, one behind another, and then to that end
  abbrev pub Leads : Option ℕ → List ℕ → Option ℕ → Type 0
  Leads from [] end = from ≡ end
  Leads from (w ∷ ws) end = (from ≡ Some w) × (w < count) × Leads (next w) ws end

  lead_on : (from mid end : Option ℕ) (ws vs : List ℕ) → Leads from ws mid → Leads mid vs end → Leads from (ws ++ vs) end
  lead_on from mid end [] vs first then = subst (λ o. Leads o vs end) (sym first) then
  lead_on from mid end (w ∷ ws) vs first then = (first.0, first.1, lead_on (next w) mid end ws vs first.2 then)

or_none : (o : Option ℕ) → option_or o None ≡ o
or_none None = refl
or_none (Some k) = refl

abbrev pub next_in : List (Option ℕ) → List (Option ℕ) → ℕ → Option ℕ
next_in firsts followers k = option_or (get_or firsts k None) (get_or followers k None)

module _ (parents firsts followers : List (Option ℕ)) (linked : IsLinked parents firsts followers) where
  abbrev next_of : ℕ → Option ℕ
  next_of k = next_in firsts followers k

  abbrev after : ℕ → Option ℕ
  after slot = get_or followers slot None

  -- from the first of those below one that stand there or behind it through their families
  abbrev LeadsThrough : ℕ → ℕ → Type 0
  LeadsThrough place slot = let siblings = siblings_from parents slot place in
      Leads (length parents) next_of (option_or (slice_get siblings 0) (after slot))
      (flat_map (whole_family parents) siblings) (after slot)

  after_is : (k : ℕ) → k < length parents
      → after k ≡ option_or (slice_get (siblings_from parents (slot_at parents k) (k + 1)) 0) (after (slot_at parents k))
  after_is k within = linked.followers_are.each k within
      ∙ ap (λ o. option_or o (after (slot_at parents k))) (linked.nexts_are.each k (omega arith) within)

  first_is : (k : ℕ) → k < length parents → get_or firsts k None ≡ slice_get (siblings_from parents k (k + 1)) 0
  first_is k within = linked.firsts_are.each k (omega arith)
      ∙ ap (λ ws. slice_get ws 0) (below_is_behind parents k (k + 1) within (omega arith))

  leads_within : (k : ℕ) → k < length parents → LeadsThrough (k + 1) k
      → Leads (length parents) next_of (Some k) (whole_family parents k) (after k)
  leads_within k within below =
      subst (λ ws. Leads (length parents) next_of (Some k) ws (after k)) (sym (family_is parents k within)) (
        refl,
        within,
        subst (λ o. Leads (length parents) next_of (option_or o (after k))
            (flat_map (whole_family parents) (siblings_from parents k (k + 1))) (after k)) (sym (first_is k within)) below,
      )

  leads_own : (place : ℕ) → place < length parents → LeadsThrough (place + 1) place
      → LeadsThrough (place + 1) (slot_at parents place) → LeadsThrough place (slot_at parents place)
  leads_own place within below beside =
      let slot = slot_at parents place in
      let rest = flat_map (whole_family parents) (siblings_from parents slot (place + 1)) in
      let others = subst (λ o. Leads (length parents) next_of o rest (after slot)) (sym (after_is place within)) beside in
      subst (λ siblings. Leads (length parents) next_of (option_or (slice_get siblings 0) (after slot))
      (flat_map (whole_family parents) siblings) (after slot)) (sym (own_sibling parents slot place within refl))
      (lead_on (length parents) next_of (Some place) (after place) (after slot) (whole_family parents place) rest
      (leads_within place within below) others)

  leads_through : (left place slot : ℕ) → place + left ≡ length parents → slot ≤ length parents → LeadsThrough place slot
  leads_through zero place slot is fits =
      let end : place ≡ length parents = omega arith in rw (end, none_at_end parents slot) refl
  leads_through (suc left) place slot is fits =
      let beside = leads_through left (place + 1) slot (omega arith) fits in
      elim (cases_eq (slot_at parents place) slot) [
        | inl own ↦ subst (LeadsThrough place) own
            (leads_own place (omega arith) (leads_through left (place + 1) place (omega arith) (omega arith))
            (subst (LeadsThrough (place + 1)) (sym own) beside))
        | inr other ↦
            subst (λ siblings. Leads (length parents) next_of (option_or (slice_get siblings 0) (after slot))
            (flat_map (whole_family parents) siblings) (after slot)) (sym (other_sibling parents slot place (omega arith) other)) beside
      ]

  pub leads_all : Leads (length parents) next_of (get_or firsts (length parents) None) (tree_order parents) None
  leads_all =
      let n = length parents in
      let past = get_or_past followers n None (omega (arith, linked.followers_are.count, linked.nexts_are.count)) in
      let all = rw past at (leads_through n 0 n (omega arith) (omega arith)) in
      let from = linked.firsts_are.each n (omega arith) ∙ sym (or_none (slice_get (siblings_from parents n 0) 0)) in
      subst (λ ws. Leads n next_of (get_or firsts n None) (flat_map (whole_family parents) ws) None) (sym (opened_by_none parents))
      (subst (λ o. Leads n next_of o (flat_map (whole_family parents) (siblings_from parents n 0)) None) (sym from) all)

-- ---- one place after another

module _ (count : ℕ) (next : ℕ → Option ℕ) where
  no_more : (ws : List ℕ) → Leads count next None ws None → ws ≡ []
  no_more [] leads = refl
  no_more (w ∷ ws) leads = absurd (none-some w leads.0)

  -- the first of the places that it leads to
  pub record IsAtFirst (w : ℕ) (ws : List ℕ) : Type 0 where
    pub rest : List ℕ
    pub is : ws ≡ w ∷ rest
    pub within : w < count
    pub leads : Leads count next (next w) rest None

  at_first : (w : ℕ) (ws : List ℕ) → Leads count next (Some w) ws None → IsAtFirst w ws
  at_first w [] leads = absurd (none-some w (sym leads))
  at_first w (v ∷ ws) leads =
      let same = same_Some w v leads.0 in
      record {
        rest = ws;
        is = ap (λ x. x ∷ ws) (sym same);
        within = omega (arith, same, leads.1);
        leads = subst (λ x. Leads count next (next x) ws None) (sym same) leads.2;
      }

-- so far these were passed, in their order, and the way leads on through the others
pub record IsWalking (whole : List ℕ) (count : ℕ) (next : ℕ → Option ℕ) (from : Option ℕ) (order : List ℕ) : Type 0 where
  pub few : length order ≤ length whole
  pub front : take (length order) whole ≡ order
  pub leads : Leads count next from (drop (length order) whole) None

module _ (whole : List ℕ) (count : ℕ) (next : ℕ → Option ℕ) where
  pub walk_begun : (from : Option ℕ) → Leads count next from whole None → IsWalking whole count next from []
  walk_begun from leads = record { few = omega arith; front = refl; leads = leads }

  module _ (order : List ℕ) (w : ℕ) (walking : IsWalking whole count next (Some w) order) where
    first : IsAtFirst count next w (drop (length order) whole)
    first = at_first count next w (drop (length order) whole) walking.leads

    pub place_within : w < count
    place_within = first.within

    pub some_left : length order < length whole
    some_left =
        let long = ap length first.is in
        let left : 0 < length (drop (length order) whole) = omega (arith, long) in
        omega (arith, left, length-drop (length order) whole)

    stands_there : (get_or whole (length order) 0 ≡ w) × (drop (length order + 1) whole ≡ first.rest)
    stands_there =
        let more = drop_more whole (length order) 0 some_left in
        let both : get_or whole (length order) 0 ∷ drop (length order + 1) whole ≡ w ∷ first.rest = sym more ∙ first.is in
        (cc both, cc both)

    pub one_walked : IsWalking whole count next (next w) (order ++ w ∷ [])
    one_walked =
        let long = length_push order w in
        record {
          few = omega (arith, long, some_left);
          front = rw long (take_more whole (length order) 0 some_left
              ∙ ap (λ front. front ++ get_or whole (length order) 0 ∷ []) walking.front
              ∙ ap (λ x. order ++ x ∷ []) stands_there.0);
          leads = rw long (subst (λ ws. Leads count next (next w) ws None) (sym stands_there.1) first.leads);
        }

  pub all_walked : (order : List ℕ) → IsWalking whole count next None order → order ≡ whole
  all_walked order walking =
      let none = ap length (no_more count next (drop (length order) whole) walking.leads) in
      let all : length whole ≤ length order = omega (arith, none, length-drop (length order) whole) in
      sym walking.front ∙ take_all (length order) whole all
