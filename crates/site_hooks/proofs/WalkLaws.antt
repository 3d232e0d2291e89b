-- A walk finds what each path reaches.
use Rattle.std.proofs.Common.{◌≡◌, ℕ, zero, suc, ◌+◌, ◌<◌, ◌≤◌, inl, inr, true, false, ◌&&◌, List, [], ◌∷◌, ◌++◌, length, take, drop, get_or, slice_get, Option, Some, None, IsSomeAnd, refl, sym, ◌∙◌, ap, subst, arith, append-nil, append_assoc}
use Rattle.std.specs.Prelude.{◌↔◌}
use Rattle.std.proofs.Math.Seq.{take-append_seam}
use Rattle.std.proofs.lemmas.Bool.{cases_lt, and_parts}
use Rattle.std.proofs.lemmas.List.{get_or_past, length-append}
use Rattle.page_tree.specs.Tree.{Tree}
use Rattle.page_tree.specs.Look.{name_at, child_count_at}
use Rattle.xpath_child.specs.Path.{Step}
use Rattle.xpath_child.specs.Reaches.{matches, is_nth, selects, LeadsOn, Reaches}
use Rattle.xpath_child.specs.declared.path.Found.TheVariants as variant
use Rattle.xpath_child.proofs.Places.{named_child}
use Rattle.site_hooks.specs.Findings.{found_by, IsNoted, AreFound, Grows}
use Rattle.site_hooks.specs.Levels.{AreLevels}
use Rattle.site_hooks.specs.Sets.{Has, IsIn}
use Rattle.site_hooks.specs.Siblings.{count_named, AreBefore}
use Rattle.site_hooks.specs.Walk.{before_test, IsPicked, PicksAt, LeadsDownTo, AreAlive, EndsFound, FindsAll}
use Rattle.site_hooks.specs.declared.findings.Findings.{Findings}
use Rattle.site_hooks.specs.declared.siblings.Siblings.{Siblings}
use Rattle.site_hooks.specs.declared.walk.Walk.{Walk}
use Rattle.site_hooks.proofs.AliveLaws.{leads_to_child, leads_levels}
use Rattle.site_hooks.proofs.NoteLaws.{grows_none, are_found, none_reached}
use Rattle.site_hooks.proofs.SiblingLaws.{selected_picked, picked_selected, picked_root}

-- nothing goes on from no paths
pub finds_none : (walk : Walk) (alive at : List ℕ) (found : Findings) → ((number : ℕ) → ¬ (Has alive number)) → FindsAll walk alive at found found
finds_none walk alive at found none = record {
  grows = grows_none walk.page.now walk.paths.now found;
  every = λ number positions has leads. absurd (none number has);
}

-- ---- which paths lead to a child

-- what was written to all of a list
pub read_back : (n : ℕ) (xs ys : List ℕ) → n ≡ length xs → take n (xs ++ ys) ≡ xs
read_back n xs ys is = ap (λ n. take n (xs ++ ys)) is ∙ take-append_seam xs ys

-- the set as it is read, and the level by the place
pub led_at : (walk : Walk) (alive led_set read at : List ℕ) (level : ℕ) (name : List ℕ) (same elements : ℕ) → level ≡ length at → read ≡ led_set
    → ((number : ℕ) → Has led_set number ↔ (Has alive number × PicksAt (get_or walk.paths.now number []) (level + 1) name same elements))
    → (number : ℕ) → Has read number ↔ (Has alive number × PicksAt (get_or walk.paths.now number []) (suc (length at)) name same elements)
led_at walk alive led_set read at level name same elements is read_is led = λ number.
    subst (λ n. Has read number ↔ (Has alive number × PicksAt (get_or walk.paths.now number []) n name same elements)) (omega (arith, is))
    (subst (λ words. Has words number ↔ (Has alive number × PicksAt (get_or walk.paths.now number []) (level + 1) name same elements)) (sym read_is) (led number))

module _ (walk : Walk) (at : List ℕ) (i : ℕ) (siblings : Siblings) (name : List ℕ) (same elements : ℕ) (is : name_at (at ++ i ∷ []) walk.page.now ≡ Some name)
    (are : AreBefore walk.page.now at i siblings) (same_is : same ≡ count_named siblings name) (elements_is : elements ≡ siblings.elements) where
  picks_selects : (o : Option Step) → (IsSomeAnd o (IsPicked name same elements) ↔ IsSomeAnd o (λ step. selects walk.page.now step at i ≡ true))
  picks_selects None = (λ h. h, λ h. h)
  picks_selects (Some step) = (
    picked_selected walk.page.now at i siblings name same elements is are same_is elements_is step,
    selected_picked walk.page.now at i siblings name same elements is are same_is elements_is step,
  )

  pub alive_child : (alive below : List ℕ) → AreAlive walk at alive
      → ((number : ℕ) → Has below number ↔ (Has alive number × PicksAt (get_or walk.paths.now number []) (suc (length at)) name same elements)) → AreAlive walk (at ++ i ∷ []) below
  alive_child alive below lead led number =
      let path = get_or walk.paths.now number [] in
      let told = picks_selects (slice_get path (suc (length at))) in
      let child = leads_to_child walk.page.now at i path in (
        λ h. let both = (led number).0 h in child.1 ((lead number).0 both.0, told.0 both.1),
        λ h. let both = child.0 h in (led number).1 ((lead number).1 both.0, told.1 both.1),
      )

-- the first step is picked like a child before which nothing stands
root_picked : (page : Tree) (name : List ℕ) (step : Step) → name_at [] page ≡ Some name → (matches step.test (name_at [] page) && is_nth step.index 0) ≡ true → IsPicked name 0 0 step
root_picked page name step is passes = picked step.test (ap (λ o. matches step.test o && is_nth step.index 0) (sym is) ∙ passes)
  where
    picked : (test : Option (List ℕ)) → (matches test (Some name) && is_nth step.index 0) ≡ true → (matches test (Some name) && is_nth step.index (before_test 0 0 test)) ≡ true
    picked None h = h
    picked (Some wanted) h = h

pub alive_root : (walk : Walk) (name all below : List ℕ) → name_at [] walk.page.now ≡ Some name → ((number : ℕ) → number < length walk.paths.now → Has all number)
    → ((number : ℕ) → Has below number ↔ (Has all number × PicksAt (get_or walk.paths.now number []) 0 name 0 0)) → AreAlive walk [] below
alive_root walk name all below is all_there led number = by_path (get_or walk.paths.now number []) refl
  where
    by_path : (path : List Step) → get_or walk.paths.now number [] ≡ path → (Has below number ↔ LeadsDownTo walk.page.now [] (get_or walk.paths.now number []))
    by_path [] none = (
      λ h. absurd (subst (λ path. PicksAt path 0 name 0 0) none ((led number).0 h).1),
      λ h. absurd (subst (LeadsDownTo walk.page.now []) none h),
    )
    by_path (step ∷ steps) some = (
      λ h. subst (LeadsDownTo walk.page.now []) (sym some) (picked_root walk.page.now name step is (subst (λ path. PicksAt path 0 name 0 0) some ((led number).0 h).1), refl),
      λ h. (led number).1 (
        elim (cases_lt number (length walk.paths.now)) [
          | inl less ↦ all_there number less
          | inr past ↦ let none = sym (get_or_past walk.paths.now number [] past) ∙ some in cc
        ],
        subst (λ path. PicksAt path 0 name 0 0) (sym some) (root_picked walk.page.now name step is (subst (LeadsDownTo walk.page.now []) some h).0),
      ),
    )

-- the sets as they are read
pub led_from_all : (walk : Walk) (name all all_read led_set read : List ℕ) → name_at [] walk.page.now ≡ Some name → all_read ≡ all → ((number : ℕ) → number < length walk.paths.now → Has all number) → read ≡ led_set
    → ((number : ℕ) → Has led_set number ↔ (Has all_read number × PicksAt (get_or walk.paths.now number []) 0 name 0 0)) → AreAlive walk [] read
led_from_all walk name all all_read led_set read is all_is all_there read_is led =
    subst (AreAlive walk []) (sym read_is) (alive_root walk name all_read led_set is (λ number less. subst (λ words. Has words number) (sym all_is) (all_there number less)) led)

-- ---- through the first children

drop_is : (path : List Step) (n : ℕ) (step : Step) (steps : List Step) → drop n path ≡ step ∷ steps → (slice_get path n ≡ Some step) × (drop (suc n) path ≡ steps)
drop_is [] zero step steps is = cc
drop_is [] (suc n) step steps is = cc
drop_is (x ∷ xs) zero step steps is = (cc, cc)
drop_is (x ∷ xs) (suc n) step steps is = drop_is xs n step steps is

-- each place was noted where a path of the set goes on through one of the first so many children
abbrev pub FindsThrough : Walk → List ℕ → List ℕ → ℕ → Findings → Type 0
FindsThrough walk alive at n found = (i : ℕ) → i < n → (number : ℕ) (step : Step) (steps : List Step) (rest : List ℕ) → Has alive number
    → drop (suc (length at)) (get_or walk.paths.now number []) ≡ step ∷ steps → LeadsOn walk.page.now at (step ∷ steps) (i ∷ rest) → IsNoted walk.page.now (found_by found number) (at ++ i ∷ rest)

module _ (walk : Walk) (alive at : List ℕ) (i : ℕ) (old new : Findings) (before : FindsThrough walk alive at i old) (grows : Grows walk.page.now walk.paths.now old new) where
  through_one : ((number : ℕ) (step : Step) (steps : List Step) (rest : List ℕ) → Has alive number → drop (suc (length at)) (get_or walk.paths.now number []) ≡ step ∷ steps
      → LeadsOn walk.page.now at (step ∷ steps) (i ∷ rest) → IsNoted walk.page.now (found_by new number) (at ++ i ∷ rest)) → FindsThrough walk alive at (i + 1) new
  through_one here k less number step steps rest has goes leads = elim (cases_lt k i) [
    | inl earlier ↦ grows.kept number (at ++ k ∷ rest) (before k earlier number step steps rest has goes leads)
    | inr now ↦
        let same : k ≡ i = omega (arith, less, now) in
        subst (λ p. IsNoted walk.page.now (found_by new number) (at ++ p ∷ rest)) (sym same) (here number step steps rest has goes (subst (λ p. LeadsOn walk.page.now at (step ∷ steps) (p ∷ rest)) same leads))
  ]

  -- a text, through which nothing goes on
  pub through_text : name_at (at ++ i ∷ []) walk.page.now ≡ None → FindsThrough walk alive at (i + 1) new
  through_text none = through_one (λ number step steps rest has goes leads. let clash : false ≡ true = sym (ap (matches step.test) none) ∙ (and_parts _ _ leads.0).0 in cc)

  -- an element whose subtree was gone through
  pub through_element : (siblings : Siblings) (name : List ℕ) (same elements : ℕ) (below child : List ℕ) (mid : Findings) → name_at (at ++ i ∷ []) walk.page.now ≡ Some name
      → AreBefore walk.page.now at i siblings → same ≡ count_named siblings name → elements ≡ siblings.elements
      → ((number : ℕ) → Has below number ↔ (Has alive number × PicksAt (get_or walk.paths.now number []) (suc (length at)) name same elements))
      → child ≡ at ++ i ∷ [] → FindsAll walk below child mid new → FindsThrough walk alive at (i + 1) new
  through_element siblings name same elements below child mid is are same_is elements_is led there finds = through_one (λ number step steps rest has goes leads.
      let path = get_or walk.paths.now number [] in
      let next = drop_is path (suc (length at)) step steps goes in
      let picked = selected_picked walk.page.now at i siblings name same elements is are same_is elements_is step leads.0 in
      let deep : suc (length child) ≡ suc (suc (length at)) = ap suc (ap length there ∙ length-append at (i ∷ []) ∙ omega arith) in
      subst (λ place. IsNoted walk.page.now (found_by new number) place) (ap (λ place. place ++ rest) there ∙ append_assoc at (i ∷ []) rest)
      (finds.every number rest ((led number).1 (has, subst (λ o. IsSomeAnd o (IsPicked name same elements)) (sym next.0) picked))
      (subst (λ rest_of. LeadsOn walk.page.now child rest_of rest) (sym (ap (λ n. drop n path) deep ∙ next.1)) (subst (λ place. LeadsOn walk.page.now place steps rest) (sym there) leads.1))))

-- ---- through all

-- a path of which nothing is left ends here
ends_here : (page : Tree) (at : List ℕ) (path : List Step) → LeadsDownTo page at path → drop (suc (length at)) path ≡ [] → length path ≡ suc (length at)
ends_here page at [] lead done = absurd lead
ends_here page at (step ∷ steps) lead done = ap suc (all_taken steps (length at) (leads_levels page [] (take (length at) steps) at lead.1) done)
  where
    all_taken : (xs : List Step) (n : ℕ) → length (take n xs) ≡ n → drop n xs ≡ [] → length xs ≡ n
    all_taken [] zero many none = refl
    all_taken [] (suc n) many none = many
    all_taken (x ∷ xs) zero many none = cc
    all_taken (x ∷ xs) (suc n) many none = ap suc (all_taken xs n (omega (arith, many)) none)

pub finds_all : (walk : Walk) (alive at : List ℕ) (n : ℕ) (old new : Findings) → AreAlive walk at alive → child_count_at at walk.page.now ≤ n → Grows walk.page.now walk.paths.now old new
    → EndsFound walk alive at new → FindsThrough walk alive at n new → FindsAll walk alive at old new
finds_all walk alive at n old new lead many grows ends through = record {
  grows = grows;
  every = λ number positions has leads. by_rest number positions has (drop (suc (length at)) (get_or walk.paths.now number [])) refl leads;
}
  where
    by_rest : (number : ℕ) (positions : List ℕ) → Has alive number → (rest_of : List Step) → drop (suc (length at)) (get_or walk.paths.now number []) ≡ rest_of
        → LeadsOn walk.page.now at rest_of positions → IsNoted walk.page.now (found_by new number) (at ++ positions)
    by_rest number positions has [] goes leads =
        subst (λ place. IsNoted walk.page.now (found_by new number) place) (sym (ap (λ ps. at ++ ps) leads ∙ append-nil at))
        (ends number has (ends_here walk.page.now at (get_or walk.paths.now number []) ((lead number).0 has) goes))
    by_rest number [] has (step ∷ steps) goes leads = absurd leads
    by_rest number (i ∷ rest) has (step ∷ steps) goes leads =
        through i (omega (arith, many, named_child step.test i at walk.page.now (and_parts _ _ leads.0).0)) number step steps rest has goes leads

-- ---- from the root

-- where what leads on from the root was gone through
pub walk_found : (walk : Walk) (below at : List ℕ) (old new : Findings) → at ≡ [] → ((number : ℕ) → found_by old number ≡ variant.Missing) → AreAlive walk [] below → FindsAll walk below at old new
    → AreFound walk.page.now walk.paths.now new
walk_found walk below at old new here none lead finds =
    are_found walk.page.now walk.paths.now new (finds.grows.right (none_reached walk.page.now walk.paths.now old none))
    (λ number place less reached. reached_noted number (get_or walk.paths.now number []) refl place reached)
  where
    reached_noted : (number : ℕ) (path : List Step) → get_or walk.paths.now number [] ≡ path → (place : List ℕ) → Reaches path walk.page.now place → IsNoted walk.page.now (found_by new number) place
    reached_noted number [] is_path place reached = absurd reached
    reached_noted number (step ∷ steps) is_path place reached =
        let has = (lead number).1 (subst (LeadsDownTo walk.page.now []) (sym is_path) (reached.0, refl)) in
        subst (λ p. IsNoted walk.page.now (found_by new number) (p ++ place)) here
        (finds.every number place has (subst (λ p. LeadsOn walk.page.now p (drop (suc (length p)) (get_or walk.paths.now number [])) place) (sym here)
        (subst (λ path. LeadsOn walk.page.now [] (drop 1 path) place) (sym is_path) reached.1)))

-- ---- below the last level

past_none : {X : Type 0} (xs : List X) (n : ℕ) → length xs ≤ n → slice_get xs n ≡ None
past_none [] n past = refl
past_none (x ∷ xs) zero past = absurd (omega (arith, past))
past_none (x ∷ xs) (suc n) past = past_none xs n (omega (arith, past))

taken_all : (xs : List Step) (n : ℕ) → length (take n xs) ≡ n → n ≤ length xs
taken_all xs zero many = omega arith
taken_all [] (suc n) many = absurd (omega (arith, many))
taken_all (x ∷ xs) (suc n) many = omega (arith, taken_all xs n (omega (arith, many)))

leads_long : (page : Tree) (at : List ℕ) (path : List Step) → LeadsDownTo page at path → length at < length path
leads_long page at [] lead = absurd lead
leads_long page at (step ∷ steps) lead = omega (arith, taken_all steps (length at) (leads_levels page [] (take (length at) steps) at lead.1))

-- no path leads below the level at which the longest ones end
pub none_below : (walk : Walk) (at alive : List ℕ) → AreLevels walk.levels.now walk.paths.now → length walk.levels.now ≤ length at → AreAlive walk at alive → (number : ℕ) → ¬ (Has alive number)
none_below walk at alive levels deep lead number has = by_length (length (get_or walk.paths.now number [])) refl
  where
    by_length : (n : ℕ) → length (get_or walk.paths.now number []) ≡ n → ⊥
    by_length zero is = omega (arith, is, leads_long walk.page.now at (get_or walk.paths.now number []) ((lead number).0 has))
    by_length (suc last) is =
        let ends = (levels.ends last number).1 is in
        subst (λ o. IsSomeAnd o (λ level. IsIn level.ends number))
        (past_none walk.levels.now last (omega (arith, is, deep, leads_long walk.page.now at (get_or walk.paths.now number []) ((lead number).0 has)))) ends
