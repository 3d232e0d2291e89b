-- The places that a path reaches: the list has them all, only them, and each once.
use Rattle.std.proofs.Common.{◌≡◌, ℕ, zero, suc, ◌<◌, inl, inr, Bool, true, false, ◌&&◌, cond, List, [], ◌∷◌, ◌++◌, Option, Some, None, option_and_then, refl, sym, ◌∙◌, ap, subst, arith, append_assoc}
use Rattle.std.specs.Option.{option_map_or}
use Rattle.std.specs.List.{range_with_len}
use Rattle.std.proofs.lemmas.Bool.{and_parts}
use Rattle.std.proofs.lemmas.List.{append-nil, append_cancel_left}
use Rattle.page_tree.specs.Tree.{Tree, Trees, no_trees, tree}
use Rattle.page_tree.specs.Look.{nth_child, children_of, node_at, name_of, name_at, count, child_count_at}
use Rattle.xpath_child.specs.Path.{Step}
use Rattle.xpath_child.specs.Reaches.{matches, is_nth, selects, LeadsOn, Reaches, IsTarget}
use Rattle.xpath_child.specs.Targets.{selected_positions, places_below, target_of, target_in}
use Rattle.xpath_child.proofs.Members.{IsIn, IsDistinct, from_filter, in_filter, distinct_filter, from_flat_map, in_flat_map, distinct_flat_map, in_range, distinct_range}

-- ---- a child that has a name is there

nth-count : (i : ℕ) (ts : Trees) (t : Tree) → nth_child i ts ≡ Some t → i < count ts
nth-count i no_trees t h = cc
nth-count zero (tree u us) t h = omega arith
nth-count (suc i) (tree u us) t h = omega (arith, nth-count i us t h)

module _ (test : Option (List ℕ)) (i : ℕ) where
  child_here : (ts : Trees) (o : Option Tree) → nth_child i ts ≡ o → matches test (option_and_then name_of (option_and_then (node_at []) o)) ≡ true → i < count ts
  child_here ts None is h = cc
  child_here ts (Some t) is h = nth-count i ts t is

  child_below : (at : List ℕ) (o : Option Tree) → ((t : Tree) → matches test (name_at (at ++ i ∷ []) t) ≡ true → i < child_count_at at t)
      → matches test (option_and_then name_of (option_and_then (node_at (at ++ i ∷ [])) o)) ≡ true → i < option_map_or (λ n. count (children_of n)) (option_and_then (node_at at) o) 0
  child_below at None later h = cc
  child_below at (Some t) later h = later t h

  pub named_child : (at : List ℕ) (page : Tree) → matches test (name_at (at ++ i ∷ []) page) ≡ true → i < child_count_at at page
  named_child [] page h = child_here (children_of page) _ refl h
  named_child (k ∷ at) page h = child_below at (nth_child k (children_of page)) (named_child at) h

-- ---- the places below a place

abbrev pub IsBelow : Tree → List Step → List ℕ → List ℕ → Type 0
IsBelow page steps at place = (rest : List ℕ) × (place ≡ at ++ rest) × LeadsOn page at steps rest

pub below_sound : (page : Tree) (steps : List Step) (at place : List ℕ) → IsIn place (places_below page steps at) → IsBelow page steps at place
below_sound page [] at place (inl h) = ([], h ∙ sym (append-nil at), refl)
below_sound page [] at place (inr h) = absurd h
below_sound page (step ∷ steps) at place h =
    let from = from_flat_map (λ i. places_below page steps (at ++ i ∷ [])) (selected_positions page step at (child_count_at at page)) place h in
    let chosen = from_filter (selects page step at) (range_with_len 0 (child_count_at at page)) from.0 from.1 in
    let below = below_sound page steps (at ++ from.0 ∷ []) place from.2 in
    (from.0 ∷ below.0, below.1 ∙ append_assoc at (from.0 ∷ []) below.0, (chosen.1, below.2))

pub below_complete : (page : Tree) (steps : List Step) (at rest : List ℕ) → LeadsOn page at steps rest → IsIn (at ++ rest) (places_below page steps at)
below_complete page [] at rest h = inl (ap (λ r. at ++ r) h ∙ append-nil at)
below_complete page (step ∷ steps) at [] h = absurd h
below_complete page (step ∷ steps) at (i ∷ rest) h =
    let there = below_complete page steps (at ++ i ∷ []) rest h.1 in
    let near = in_range 0 (child_count_at at page) i (omega arith) (omega (arith, named_child step.test i at page (and_parts _ _ h.0).0)) in
    let chosen = in_filter (selects page step at) (range_with_len 0 (child_count_at at page)) i h.0 near in
    in_flat_map (λ k. places_below page steps (at ++ k ∷ [])) (selected_positions page step at (child_count_at at page)) i (at ++ i ∷ rest) chosen
    (subst (λ place. IsIn place (places_below page steps (at ++ i ∷ []))) (append_assoc at (i ∷ []) rest) there)

apart : (page : Tree) (steps : List Step) (at : List ℕ) (i k : ℕ) (place : List ℕ) → IsIn place (places_below page steps (at ++ i ∷ [])) → IsIn place (places_below page steps (at ++ k ∷ [])) → i ≡ k
apart page steps at i k place first second =
    let a = below_sound page steps (at ++ i ∷ []) place first in
    let b = below_sound page steps (at ++ k ∷ []) place second in
    let same = append_cancel_left at (i ∷ a.0) (k ∷ b.0) (sym (append_assoc at (i ∷ []) a.0) ∙ sym a.1 ∙ b.1 ∙ append_assoc at (k ∷ []) b.0) in
    cc

pub below_distinct : (page : Tree) (steps : List Step) (at : List ℕ) → IsDistinct (places_below page steps at)
below_distinct page [] at = (λ h. h, tt)
below_distinct page (step ∷ steps) at =
    distinct_flat_map (λ i. places_below page steps (at ++ i ∷ [])) (selected_positions page step at (child_count_at at page))
    (distinct_filter (selects page step at) (range_with_len 0 (child_count_at at page)) (distinct_range 0 (child_count_at at page)))
    (λ i. below_distinct page steps (at ++ i ∷ [])) (apart page steps at)

-- ---- the target

target_is : (path : List Step) (page : Tree) (ps : List (List ℕ)) → ((place : List ℕ) → IsIn place ps → Reaches path page place) → ((place : List ℕ) → Reaches path page place → IsIn place ps) → IsDistinct ps
    → IsTarget path page (target_of ps)
target_is path page [] sound complete distinct = complete
target_is path page (p ∷ []) sound complete distinct = (sound p (inl refl), λ other h. elim (complete other h) [ inl l ↦ l | inr r ↦ absurd r ])
target_is path page (p ∷ q ∷ ps) sound complete distinct = (p, q, λ same. distinct.0 (inl same), sound p (inl refl), sound q (inr (inl refl)))

module _ (step : Step) (steps : List Step) (page : Tree) where
  from_root : (b : Bool) → (matches step.test (name_at [] page) && is_nth step.index 0) ≡ b → IsTarget (step ∷ steps) page (target_of (cond b (places_below page steps []) []))
  from_root true h = target_is (step ∷ steps) page (places_below page steps [])
      (λ place i. let below = below_sound page steps [] place i in (h, subst (LeadsOn page [] steps) (sym below.1) below.2))
      (λ place r. below_complete page steps [] place r.1)
      (below_distinct page steps [])
  from_root false h = λ place r. let e : true ≡ false = sym r.0 ∙ h in cc

pub target_in-is : (path : List Step) (page : Tree) → IsTarget path page (target_in path page)
target_in-is [] page = λ place r. r
target_in-is (step ∷ steps) page = from_root step steps page _ refl
