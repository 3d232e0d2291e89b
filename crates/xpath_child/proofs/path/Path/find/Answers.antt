use Rattle.std.proofs.Common.{option_map, ◌≡◌, ◌≢◌, ℕ, List, Option, Some, None, subst, ap, sym, ◌∙◌, ◌∷◌, map, drop, lit<}
use Rattle.std.proofs.lemmas.Str.Pattern.{strip_prefix_char}
use Rattle.xpath_child.specs.Path.{Step}
use Rattle.xpath_child.specs.Fault.{path_fault, written_steps, step_in}
use Rattle.xpath_child.specs.Reaches.{IsTarget}
use Rattle.xpath_child.specs.Targets.{target_in}
use Rattle.xpath_child.specs.declared.cutting.CutStep.{CutStep}
use Rattle.xpath_child.specs.inside.Search.{AreSteps, steps_in, steps_left}
use Rattle.xpath_child.proofs.Answered.{no_slash}
use Rattle.xpath_child.proofs.Places.{target_in-is}
use Rattle.xpath_child.proofs.Numbers.{found_inside}
use Rattle.xpath_child.proofs.path.Path.find.Goals as goal

-- the text of a path begins with a `/`
slashed : {A : Type 0} (text : List ℕ) → path_fault text ≡ None → ((rest : List ℕ) → text ≢ 47 ∷ rest) → A
slashed text none other = let clash = sym none ∙ no_slash text other in cc

pub returns-in_default-clause-exact : goal.returns-in_default-clause-exact
returns-in_default-clause-exact c = slashed c.self.inside.text c.self.invariant (λ rest is. strip_prefix_char 47 c.as_str.result.now None c.in_default.ensures.cases (lit< tt) rest (c.as_str.ensures ∙ is))

pub returns-in_default-clause-target : goal.returns-in_default-clause-target
returns-in_default-clause-target c = slashed c.self.inside.text c.self.invariant (λ rest is. strip_prefix_char 47 c.as_str.result.now None c.in_default.ensures.cases (lit< tt) rest (c.as_str.ensures ∙ is))

-- what stands behind the first `/` has no fault
no_fault : (text shown steps : List ℕ) → path_fault text ≡ None → shown ≡ text → shown ≡ 47 ∷ steps → AreSteps (Some steps)
no_fault text shown steps none same slash = (0, 1, sym (ap path_fault (sym same ∙ slash)) ∙ none)

pub of-few-requires : goal.of-few-requires
of-few-requires c =
    let slash = strip_prefix_char 47 c.as_str.result.now (Some c.in-Some.text) c.in-Some.ensures.cases (lit< tt) in
    (lit< tt, (lit< tt, no_fault c.self.inside.text c.as_str.result.now c.in-Some.text.now c.self.invariant c.as_str.ensures slash))

pub of-most-requires : goal.of-most-requires
of-most-requires c =
    let slash = strip_prefix_char 47 c.as_str.result.now (Some c.in-Some.text) c.in-Some.ensures.cases (lit< tt) in
    (lit< tt, (lit< tt, no_fault c.self.inside.text c.as_str.result.now c.in-Some.text.now c.self.invariant c.as_str.ensures slash))

-- the path has the steps that are cut out, and those that are left
path_is : (path : List Step) (text shown steps : List ℕ) (cut : List CutStep) (left : Option (List ℕ)) → map step_in (written_steps (drop 1 text)) ≡ path → shown ≡ text → shown ≡ 47 ∷ steps
    → steps_left cut left ≡ steps_in (Some steps) → path ≡ steps_left cut left
path_is path text shown steps cut left view same slash all = sym view ∙ ap (λ t. map step_in (written_steps (drop 1 t))) (sym same ∙ slash) ∙ sym all

pub returns-then-is_none-clause-exact : goal.returns-then-is_none-clause-exact
returns-then-is_none-clause-exact c =
    let left = option_map (λ r. r.now) c.of-few.result.rest in
    let slash = strip_prefix_char 47 c.as_str.result.now (Some c.in-Some.text) c.in-Some.ensures.cases (lit< tt) in
    c.find_cut.ensures
    ∙ ap (λ cut. target_in (steps_left cut left) c.args.page.now) c.as_slice.ensures.value
    ∙ ap (λ path. target_in path c.args.page.now)
    (sym (path_is c.args.self.now c.self.inside.text c.as_str.result.now c.in-Some.text.now c.of-few.result.cut.items left c.self.view_is c.as_str.ensures slash c.of-few.ensures.steps))

pub returns-then-is_none-clause-target : goal.returns-then-is_none-clause-target
returns-then-is_none-clause-target c =
    subst (IsTarget c.args.self.now c.args.page.now) (sym (returns-then-is_none-clause-exact c)) (target_in-is c.args.self.now c.args.page.now)

pub returns-then-is_none-clause-there : goal.returns-then-is_none-clause-there
returns-then-is_none-clause-there c = λ number is. found_inside c.args.self.now c.args.page.now _ number is (returns-then-is_none-clause-target c)

pub returns-clause-exact : goal.returns-clause-exact
returns-clause-exact c =
    let left = option_map (λ r. r.now) c.of-most.result.rest in
    let slash = strip_prefix_char 47 c.as_str.result.now (Some c.in-Some.text) c.in-Some.ensures.cases (lit< tt) in
    c.find_cut-2.ensures
    ∙ ap (λ cut. target_in (steps_left cut left) c.args.page.now) c.as_slice-2.ensures.value
    ∙ ap (λ path. target_in path c.args.page.now)
    (sym (path_is c.args.self.now c.self.inside.text c.as_str.result.now c.in-Some.text.now c.of-most.result.cut.items left c.self.view_is c.as_str.ensures slash c.of-most.ensures.steps))

pub returns-clause-target : goal.returns-clause-target
returns-clause-target c = subst (IsTarget c.args.self.now c.args.page.now) (sym (returns-clause-exact c)) (target_in-is c.args.self.now c.args.page.now)

pub returns-clause-there : goal.returns-clause-there
returns-clause-there c = λ number is. found_inside c.args.self.now c.args.page.now _ number is (returns-clause-target c)
