-- One child more, and what stays once a search is settled.
use Rattle.std.proofs.Common.{◌≡◌, ℕ, zero, suc, ◌+◌, ◌-◌, ◌≤◌, ◌<◌, Bool, true, false, ◌&&◌, cond, List, [], ◌∷◌, ◌++◌, length, nat_le, Option, Some, None, refl, sym, ◌∙◌, ap, arith, zero-add, fold, filter, flat_map, count_by, leb-true, le-leb, eq-eqb, ne_eqb}
use Rattle.std.specs.Option.{option_map_or}
use Rattle.std.specs.List.{range_with_len}
use Rattle.std.proofs.lemmas.Bool.{and_right}
use Rattle.std.proofs.lemmas.List.{append-nil}
use Rattle.std.proofs.lemmas.List.Concat.{flat_map-append}
use Rattle.std.proofs.lemmas.List.Elements.{filter-append}
use Rattle.std.proofs.lemmas.List.Folds.{fold_stays}
use Rattle.std.proofs.lemmas.List.Sums.{fold-append, sum_by-append}
use Rattle.page_tree.proofs.Numbers.{range-append}
use Rattle.page_tree.specs.Tree.{Tree}
use Rattle.page_tree.specs.Look.{name_at, child_count_at}
use Rattle.xpath_child.specs.Path.{Step}
use Rattle.xpath_child.specs.Reaches.{matches, matching_before, is_nth, selects}
use Rattle.xpath_child.specs.Targets.{selected_positions, places_below, places, target_of, target_in}
use Rattle.xpath_child.specs.inside.Search.{note}
use Rattle.xpath_child.specs.declared.path.Target.{Target}
use Rattle.xpath_child.specs.declared.path.Target.TheVariants.{Missing, Several}

-- ---- one child more

range_split : (i n : ℕ) → range_with_len 0 (i + n) ≡ range_with_len 0 i ++ range_with_len i n
range_split i n = range-append 0 i n ∙ ap (λ k. range_with_len 0 i ++ range_with_len k n) (zero-add i)

matching_before_next : (page : Tree) (test : Option (List ℕ)) (at : List ℕ) (i : ℕ) → matching_before page test at (i + 1) ≡ matching_before page test at i + cond (matches test (name_at (at ++ i ∷ []) page)) 1 0
matching_before_next page test at i =
    ap (count_by (λ k. matches test (name_at (at ++ k ∷ []) page))) (range_split i 1)
    ∙ sum_by-append (λ k. cond (matches test (name_at (at ++ k ∷ []) page)) 1 0) (range_with_len 0 i) (i ∷ []) ∙ ap (λ n. matching_before page test at i + n) (zero-add _)

module _ (page : Tree) (step : Step) (rest : List Step) (at : List ℕ) where
  -- the places that the step and the rest reach through the first n children
  abbrev pub through : ℕ → List (List ℕ)
  through n = flat_map (λ k. places_below page rest (at ++ k ∷ [])) (selected_positions page step at n)

  abbrev later : ℕ → ℕ → List (List ℕ)
  later i n = flat_map (λ k. places_below page rest (at ++ k ∷ [])) (filter (selects page step at) (range_with_len i n))

  through_split : (i n : ℕ) → through (i + n) ≡ through i ++ later i n
  through_split i n =
      ap (λ ks. flat_map (λ k. places_below page rest (at ++ k ∷ [])) (filter (selects page step at) ks)) (range_split i n)
      ∙ ap (flat_map (λ k. places_below page rest (at ++ k ∷ []))) (filter-append (selects page step at) (range_with_len 0 i) (range_with_len i n))
      ∙ flat_map-append (λ k. places_below page rest (at ++ k ∷ [])) (selected_positions page step at i) (filter (selects page step at) (range_with_len i n))

  noted_split : (found : Target) (i n : ℕ) → fold note found (through (i + n)) ≡ fold note (fold note found (through i)) (later i n)
  noted_split found i n = ap (fold note found) (through_split i n) ∙ fold-append note found (through i) (later i n)

  flat_one : {Y : Type 0} (g : ℕ → List Y) (b : Bool) (i : ℕ) → flat_map g (cond b (i ∷ []) []) ≡ cond b (g i) []
  flat_one g true i = append-nil (g i)
  flat_one g false i = refl

  pub through_next : (found : Target) (i : ℕ) → fold note found (through (i + 1)) ≡ fold note (fold note found (through i)) (cond (selects page step at i) (places_below page rest (at ++ i ∷ [])) [])
  through_next found i = noted_split found i 1 ∙ ap (fold note (fold note found (through i))) (flat_one (λ k. places_below page rest (at ++ k ∷ [])) (selects page step at i) i)

  -- ---- a search that is settled

  several_stays : (found : Target) (i n : ℕ) → Several ≡ fold note found (through i) → Several ≡ fold note found (through (i + n))
  several_stays found i n e = sym (noted_split found i n ∙ ap (λ t. fold note t (later i n)) (sym e) ∙ fold_stays note Several (λ x. refl) (later i n))

  past-nth : (index : Option ℕ) (before : ℕ) → option_map_or (λ n. nat_le n before) index false ≡ true → is_nth index before ≡ false
  past-nth None before h = sym h
  past-nth (Some n) before h = let low = leb-true _ _ h in ne_eqb n (suc before) (λ e. omega (arith, low, e))

  past_next : (index : Option ℕ) (i : ℕ) → option_map_or (λ n. nat_le n (matching_before page step.test at i)) index false ≡ true → option_map_or (λ n. nat_le n (matching_before page step.test at (i + 1))) index false ≡ true
  past_next None i h = h
  past_next (Some n) i h = let low = leb-true _ _ h in le-leb _ _ (omega (arith, low, matching_before_next page step.test at i))

  none_past : (i n : ℕ) → option_map_or (λ m. nat_le m (matching_before page step.test at i)) step.index false ≡ true → filter (selects page step at) (range_with_len i n) ≡ []
  none_past i zero h = refl
  none_past i (suc n) h =
      ap (λ b. cond b (i ∷ filter (selects page step at) (range_with_len (i + 1) n)) (filter (selects page step at) (range_with_len (i + 1) n))) (and_right (matches step.test (name_at (at ++ i ∷ []) page)) _ (past-nth step.index _ h))
      ∙ none_past (i + 1) n (past_next step.index i h)

  -- ---- what the look at one child gives

  module _ (child : List ℕ) (i before : ℕ) (count : before ≡ matching_before page step.test at i) (there : child ≡ at ++ i ∷ []) where
    pub counted : (m : Bool) → m ≡ matches step.test (name_at child page) → before + cond m 1 0 ≡ matching_before page step.test at (i + 1)
    counted m matched = sym (matching_before_next page step.test at i ∙ ap (λ p. matching_before page step.test at i + cond (matches step.test (name_at p page)) 1 0) (sym there) ∙ rw (← matched, ← count) refl)

    pub noted : (found now next : Target) → now ≡ fold note found (through i) → next ≡ fold note now (cond (matches step.test (name_at child page) && is_nth step.index before) (places_below page rest child) []) → next ≡ fold note found (through (i + 1))
    noted found now next so_far e =
        e ∙ ap (λ p. fold note now (cond (matches step.test (name_at p page) && is_nth step.index before) (places_below page rest p) [])) there
        ∙ ap (λ n. fold note now (cond (matches step.test (name_at (at ++ i ∷ []) page) && is_nth step.index n) (places_below page rest (at ++ i ∷ [])) [])) count
        ∙ ap (λ t. fold note t (cond (selects page step at i) (places_below page rest (at ++ i ∷ [])) [])) so_far ∙ sym (through_next found i)

  -- a search that stops at a second node
  pub settled : (found now : Target) (i n : ℕ) → n ≡ child_count_at at page → i ≤ n → now ≡ fold note found (through i) → now ≡ Several → now ≡ fold note found (places_below page (step ∷ rest) at)
  settled found now i n all h so_far several =
      let split : i + (n - i) ≡ child_count_at at page = omega (arith, all) in
      several ∙ several_stays found i (n - i) (sym several ∙ so_far) ∙ ap (λ m. fold note found (through m)) split

-- ---- a child that matches, and one that doesn't, where the step has no index

module _ (page : Tree) (test : Option (List ℕ)) (rest : List Step) (child : List ℕ) (now next : Target) where
  pub match_noted : matches test (name_at child page) ≡ true → next ≡ fold note now (places_below page rest child) → next ≡ fold note now (cond (matches test (name_at child page) && true) (places_below page rest child) [])
  match_noted matched e = e ∙ ap (λ m. fold note now (cond (m && true) (places_below page rest child) [])) (sym matched)

  pub other_noted : matches test (name_at child page) ≡ false → next ≡ now → next ≡ fold note now (cond (matches test (name_at child page) && true) (places_below page rest child) [])
  other_noted other e = e ∙ ap (λ m. fold note now (cond (m && true) (places_below page rest child) [])) (sym other)

-- ---- the n-th child that matches

module _ (page : Tree) (test : Option (List ℕ)) (nth : ℕ) (at child : List ℕ) (i before : ℕ) (count : before ≡ matching_before page test at i) (there : child ≡ at ++ i ∷ []) where
  abbrev nth_step : Step
  nth_step = record { test = test; index = Some nth }

  chosen : selects page nth_step at i ≡ (matches test (name_at child page) && is_nth (Some nth) before)
  chosen =
      ap (λ p. matches test (name_at p page) && is_nth (Some nth) (matching_before page test at i)) (sym there)
      ∙ ap (λ n. matches test (name_at child page) && is_nth (Some nth) n) (sym count)

  next_one : (b : Bool) → (matches test (name_at child page) && is_nth (Some nth) before) ≡ b → selected_positions page nth_step at i ≡ [] → selected_positions page nth_step at (i + 1) ≡ cond b (i ∷ []) []
  next_one b is none =
      ap (filter (selects page nth_step at)) (range_split i 1) ∙ filter-append (selects page nth_step at) (range_with_len 0 i) (range_with_len i 1)
      ∙ ap (λ ks. ks ++ cond (selects page nth_step at i) (i ∷ []) []) none ∙ ap (λ c. cond c (i ∷ []) []) (chosen ∙ is)

  pub none_yet : (matches test (name_at child page) && is_nth (Some nth) before) ≡ false → selected_positions page nth_step at i ≡ [] → selected_positions page nth_step at (i + 1) ≡ []
  none_yet other none = next_one false other none

  pub only_one : (n : ℕ) → n ≡ child_count_at at page → i < n → matches test (name_at child page) ≡ true → before + 1 ≡ nth → selected_positions page nth_step at i ≡ []
      → (rest : List Step) → places_below page (nth_step ∷ rest) at ≡ places_below page rest child
  only_one n all inside fits last none rest =
      let more = n - (i + 1) in
      let split : child_count_at at page ≡ i + 1 + more = omega (arith, all, inside) in
      let nth_here : is_nth (Some nth) before ≡ true = eq-eqb nth (suc before) (omega (arith, last)) in
      let matched : (matches test (name_at child page) && is_nth (Some nth) before) ≡ true = rw (fits, nth_here) refl in
      let counts : matching_before page test at (i + 1) ≡ before + 1 =
      sym (counted page nth_step rest at child i before count there true (sym fits)) in
      let past : option_map_or (λ m. nat_le m (matching_before page test at (i + 1))) (Some nth) false ≡ true = le-leb _ _ (omega (arith, counts, last)) in
      let only : selected_positions page nth_step at (i + 1 + more) ≡ i ∷ [] =
      ap (filter (selects page nth_step at)) (range_split (i + 1) more) ∙ filter-append (selects page nth_step at) (range_with_len 0 (i + 1)) (range_with_len (i + 1) more)
      ∙ ap (λ ks. ks ++ filter (selects page nth_step at) (range_with_len (i + 1) more)) (next_one true matched none) ∙ ap (λ ks. i ∷ ks) (none_past page nth_step rest at (i + 1) more past) in
      ap (λ m. flat_map (λ k. places_below page rest (at ++ k ∷ [])) (selected_positions page nth_step at m)) split ∙ ap (flat_map (λ k. places_below page rest (at ++ k ∷ []))) only
      ∙ append-nil (places_below page rest (at ++ i ∷ [])) ∙ ap (places_below page rest) (sym there)

-- ---- a child without children, from which further steps reach nothing

none_below : (page : Tree) (steps : List Step) (at : List ℕ) → 0 < length steps → child_count_at at page ≡ 0 → places_below page steps at ≡ []
none_below page [] at some none = absurd (omega arith)
none_below page (step ∷ steps) at some none = ap (through page step steps at) none

pub nothing_noted : (page : Tree) (steps : List Step) (at : List ℕ) (found : Target) → 0 < length steps → child_count_at at page ≡ 0 → found ≡ fold note found (places_below page steps at)
nothing_noted page steps at found some none = sym (ap (fold note found) (none_below page steps at some none))

-- ---- a whole path

fold_note : (ps : List (List ℕ)) → fold note Missing ps ≡ target_of ps
fold_note [] = refl
fold_note (p ∷ []) = refl
fold_note (p ∷ q ∷ ps) = fold_stays note Several (λ x. refl) ps

pub found_target : (page : Tree) (step : Step) (rest path : List Step) (root : List ℕ) (found : Target) → path ≡ step ∷ rest → root ≡ []
    → found ≡ fold note Missing (cond (matches step.test (name_at root page) && is_nth step.index 0) (places_below page rest root) []) → found ≡ target_in path page
found_target page step rest path root found is here e =
    e ∙ ap (λ p. fold note Missing (cond (matches step.test (name_at p page) && is_nth step.index 0) (places_below page rest p) [])) here
    ∙ fold_note (places (step ∷ rest) page) ∙ ap (λ p. target_in p page) (sym is)
