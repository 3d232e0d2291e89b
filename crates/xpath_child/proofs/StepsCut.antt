-- Steps that are cut out of a text, one after another.
use Rattle.std.proofs.Common.{◌≡◌, ℕ, ◌<◌, List, [], ◌∷◌, ◌++◌, ◌==◌, map, length, true, is_some, Option, Some, None, option_map, refl, sym, ◌∙◌, ap, subst, arith, append_assoc}
use Rattle.std.proofs.lemmas.List.{map-append, length-map}
use Rattle.std.proofs.lemmas.List.Splits.{length-slice_split}
use Rattle.xpath_child.specs.Fault.{written_steps, step_in}
use Rattle.xpath_child.specs.declared.cutting.CutStep.{CutStep}
use Rattle.xpath_child.specs.declared.step.Tail.{Tail}
use Rattle.xpath_child.specs.inside.Search.{steps_in, step_for, step_of, steps_left, AreSteps, first_in, left_in, IsTail}
use Rattle.xpath_child.proofs.Cut.{cut_steps, rest_are}
use Rattle.xpath_child.proofs.Matched.{test_at}

module _ (text : List ℕ) (tail : Tail) (h : IsTail text tail) where
  -- the steps of a text, by the test and the tail of the first one
  by_tail : (test : List ℕ) → test ≡ test_at text → steps_in (Some text) ≡ step_for test tail.index ∷ steps_in (option_map (λ r. r.now) tail.rest)
  by_tail test tests =
      let index = h.index in
      let rest = h.rest in
      cut_steps text (first_in text) (left_in text) refl refl ∙ rw (tests, index, rest) refl

  -- none of those behind it has a fault
  pub behind_are : AreSteps (Some text) → AreSteps (option_map (λ r. r.now) tail.rest)
  behind_are are = subst AreSteps (sym h.rest) (rest_are text (first_in text) (left_in text) refl refl are)

  pub one_more : (cut : List CutStep) (step : CutStep) → step.test.now ≡ test_at text → step.index ≡ tail.index
      → steps_left (cut ++ step ∷ []) (option_map (λ r. r.now) tail.rest) ≡ steps_left cut (Some text)
  one_more cut step tests index =
      let rest = steps_in (option_map (λ r. r.now) tail.rest) in
      ap (λ steps. steps ++ rest) (map-append step_of cut (step ∷ [])) ∙ append_assoc (map step_of cut) (step_of step ∷ []) rest
      ∙ ap (λ i. map step_of cut ++ step_for step.test.now i ∷ rest) index ∙ ap (λ steps. map step_of cut ++ steps) (sym (by_tail step.test.now tests))

-- there is a step where one is cut out, or a text is left
pub more : (cut : List CutStep) (left : Option (List ℕ)) → is_some left ≡ true → 0 < length (steps_left cut left)
more [] None some = cc
more [] (Some text) some = omega (arith, length-map (written_steps text) step_in, length-slice_split (λ c. c == 47) text)
more (step ∷ cut) left some = omega arith

-- 1 where no step is cut out
abbrev pub uncut : List CutStep → ℕ
uncut [] = 1
uncut (step ∷ cut) = 0
