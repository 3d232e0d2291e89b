-- The first step of a text, and what is left behind it.
use Rattle.std.proofs.Common.{◌≡◌, ℕ, suc, ◌+◌, ◌<◌, ◌≤◌, ◌==◌, Bool, true, false, is_some, cond, nat_lt, List, [], ◌∷◌, map, length, take, drop, get_or, Option, Some, None, option_map, refl, sym, ◌∙◌, ap, arith, add-one, lt-ltb, le-ltb}
use Rattle.std.specs.Option.{option_map_or, option_or}
use Rattle.std.specs.List.{before_first, position, position_or_len}
use Rattle.std.proofs.Math.Seq.{take_all}
use Rattle.std.proofs.lemmas.Bool.{eqb-true, ltb-true, ltb-false}
use Rattle.std.proofs.lemmas.List.Quantifiers.{position-Some}
use Rattle.std.proofs.lemmas.List.Splits.{slice_split_none, slice_split_first}
use Rattle.std.proofs.lemmas.List.Sums.{fails_before_first}
use Rattle.std.proofs.lemmas.List.{length-take, length-drop}
use Rattle.page_tree.specs.Limits.{max_depth}
use Rattle.page_tree.specs.FirstFault.{unless}
use Rattle.page_tree.proofs.FirstFault.{unless-none, option_or-none}
use Rattle.xpath_child.specs.Fault.{fault_at, is_closed_index, index_part, text_fault, first_step_fault, written_steps, step_in}
use Rattle.xpath_child.specs.declared.fault.PathFault.{PathFault}
use Rattle.xpath_child.specs.declared.fault.PathFaultKind.TheVariants.{TooManySteps}
use Rattle.xpath_child.specs.inside.Search.{steps_in, AreSteps}
use Rattle.xpath_child.proofs.Sound.{else_none, cond_is}

cut_by : (text : List ℕ) (b : Bool) → nat_lt (position_or_len (λ c. c == 47) text) (length text) ≡ b
    → written_steps text ≡ before_first (λ c. c == 47) text ∷ option_map_or written_steps (option_map (λ i. drop (i + 1) text) (cond b (Some (position_or_len (λ c. c == 47) text)) None)) []
cut_by text true h = slice_split_first (λ c. c == 47) text 0 (ltb-true _ _ h)
cut_by text false h =
    let all = ltb-false _ _ h in
    slice_split_none (λ c. c == 47) text (λ k d inside. fails_before_first (λ c. c == 47) text k d (omega arith)) ∙ ap (λ first. first ∷ []) (sym (take_all (position_or_len (λ c. c == 47) text) text all))

-- ---- where a text is cut

module _ (mark : ℕ) (text : List ℕ) where
  pub found_at : (at : ℕ) → Some at ≡ position (λ c. c == mark) text → (at < length text) × (get_or text at 0 ≡ mark) × (take at text ≡ before_first (λ c. c == mark) text)
  found_at at h =
      let found = position-Some (λ c. c == mark) text at 0 (sym h) in
      (found.0, eqb-true (get_or text at 0) mark found.1, ap (λ n. take n text) (sym (cond_is _ _ _ (sym h))))

  pub none_found : None ≡ position (λ c. c == mark) text → text ≡ before_first (λ c. c == mark) text
  none_found h = sym (take_all (position_or_len (λ c. c == mark) text) text (ltb-false _ _ (else_none _ _ h)))

-- ---- the first step

some_first : {A : Type 0} (o later : Option A) → is_some o ≡ true → option_or o later ≡ o
some_first None later h = cc
some_first (Some x) later h = refl

none_first : {A : Type 0} (o later : Option A) → is_some o ≡ false → option_or o later ≡ later
none_first None later h = refl
none_first (Some x) later h = cc

module _ (text first : List ℕ) (rest : Option (List ℕ)) (before : first ≡ before_first (λ c. c == 47) text) (after : rest ≡ option_map (λ i. drop (i + 1) text) (position (λ c. c == 47) text)) where
  pub cut_texts : written_steps text ≡ first ∷ option_map_or written_steps rest []
  cut_texts = cut_by text _ refl ∙ ap (λ o. before_first (λ c. c == 47) text ∷ option_map_or written_steps o []) (sym after) ∙ ap (λ f. f ∷ option_map_or written_steps rest []) (sym before)

  pub cut_steps : steps_in (Some text) ≡ step_in first ∷ steps_in rest
  cut_steps = ap (map step_in) cut_texts ∙ by rest
    where
      by : (o : Option (List ℕ)) → map step_in (first ∷ option_map_or written_steps o []) ≡ step_in first ∷ steps_in o
      by None = refl
      by (Some more) = refl

  pub cut_room : (more : List ℕ) → rest ≡ Some more → length text ≡ length first + 1 + length more
  cut_room more is = by _ refl (sym is ∙ after)
    where
      by : (b : Bool) → nat_lt (position_or_len (λ c. c == 47) text) (length text) ≡ b → Some more ≡ option_map (λ i. drop (i + 1) text) (cond b (Some (position_or_len (λ c. c == 47) text)) None) → length text ≡ length first + 1 + length more
      by true h e =
          let at = position_or_len (λ c. c == 47) text in
          let inside = ltb-true _ _ h in
          let behind : more ≡ drop (at + 1) text = cc in
          omega (arith, inside, ap length before, length-take at text, ap length behind, length-drop (at + 1) text)
      by false h e = cc

  -- the first fault is that of the first step, or else of what is left
  step_within : (place start : ℕ) → place < max_depth → first_step_fault place start (written_steps text) ≡ option_or (text_fault start first) (first_step_fault (place + 1) (start + (length first + 1)) (option_map_or written_steps rest []))
  step_within place start few =
      let texts = option_map_or written_steps rest [] in
      let past : start + length first + 1 ≡ start + (length first + 1) = omega arith in
      ap (first_step_fault place start) cut_texts
      ∙ ap (λ b. unless b (fault_at start TooManySteps) (option_or (text_fault start first) (first_step_fault (suc place) (start + length first + 1) texts))) (lt-ltb place max_depth few)
      ∙ ap (λ n. option_or (text_fault start first) (first_step_fault n (start + length first + 1) texts)) (sym (add-one place))
      ∙ ap (λ n. option_or (text_fault start first) (first_step_fault (place + 1) n texts)) past

  module _ (place start : ℕ) (few : place < max_depth) (whole own : Option PathFault) (left : first_step_fault place start (written_steps text) ≡ whole) (is : own ≡ text_fault start first) where
    met : option_or own (first_step_fault (place + 1) (start + (length first + 1)) (option_map_or written_steps rest [])) ≡ whole
    met = ap (λ o. option_or o (first_step_fault (place + 1) (start + (length first + 1)) (option_map_or written_steps rest []))) is ∙ sym (step_within place start few) ∙ left

    pub fault_here : is_some own ≡ true → own ≡ whole
    fault_here found = sym (some_first own _ found) ∙ met

    pub fault_behind : is_some own ≡ false → first_step_fault (place + 1) (start + (length first + 1)) (option_map_or written_steps rest []) ≡ whole
    fault_behind none = sym (none_first own _ none) ∙ met

  -- no step has a fault, so the first one has none, and no later one
  module _ (are : AreSteps (Some text)) where
    both : (option_map_or is_closed_index (index_part first) true ≡ true) × (first_step_fault (suc are.0) (are.1 + length first + 1) (option_map_or written_steps rest []) ≡ None)
    both =
        let parts = option_or-none _ _ (unless-none _ _ _ (sym (ap (first_step_fault are.0 are.1) cut_texts) ∙ are.2)).1 in
        let some = unless-none _ _ _ parts.0 in
        let name = unless-none _ _ _ some.1 in
        ((unless-none _ _ _ name.1).0, parts.1)

    pub first_closed : option_map_or is_closed_index (index_part first) true ≡ true
    first_closed = both.0

    pub rest_are : AreSteps rest
    rest_are = by rest both.1
      where
        by : (o : Option (List ℕ)) → first_step_fault (suc are.0) (are.1 + length first + 1) (option_map_or written_steps o []) ≡ None → AreSteps o
        by None none = tt
        by (Some more) none = (suc are.0, are.1 + length first + 1, none)

pub too_many : (text : List ℕ) (place start : ℕ) → max_depth ≤ place → first_step_fault place start (written_steps text) ≡ Some (record { at = start; kind = TooManySteps })
too_many text place start past =
    let rest = option_map (λ i. drop (i + 1) text) (position (λ c. c == 47) text) in
    let first = before_first (λ c. c == 47) text in
    ap (first_step_fault place start) (cut_texts text first rest refl refl)
    ∙ ap (λ b. unless b (fault_at start TooManySteps) (option_or (text_fault start first) (first_step_fault (suc place) (start + length first + 1) (option_map_or written_steps rest [])))) (le-ltb place max_depth past)
