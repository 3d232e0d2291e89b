-- The number that a search finds is one of the page's.
use Rattle.std.proofs.Common.{◌≡◌, ℕ, ◌<◌, inl, inr, List, [], ◌∷◌, ◌++◌, IsTrue, IsSome, Option, Some, None, option_and_then, refl, sym, ◌∙◌, ap, subst, append_assoc, append-nil}
use Rattle.std.proofs.lemmas.Bool.{cases_lt, and_parts}
use Rattle.page_tree.specs.Tree.{Tree}
use Rattle.page_tree.specs.Limits.{nodes}
use Rattle.page_tree.specs.Look.{name_of, name_at}
use Rattle.page_tree.specs.Number.{place_numbered}
use Rattle.page_tree.proofs.Numbers.{has_none}
use Rattle.xpath_child.specs.Path.{Step}
use Rattle.xpath_child.specs.Reaches.{matches, LeadsOn, Reaches, IsTarget}
use Rattle.xpath_child.specs.Targets.{place_found}
use Rattle.xpath_child.specs.declared.path.Found.{Found}
use Rattle.xpath_child.specs.declared.path.Found.TheVariants.{One}

named_inside : (page : Tree) (n : ℕ) → IsSome (name_at (place_numbered n page) page) → n < nodes page
named_inside page n there = elim (cases_lt n (nodes page)) [ inl inside ↦ inside | inr past ↦ let none = subst IsSome (ap (option_and_then name_of) (has_none n page past)) there in cc ]

-- ---- a place that a path reaches has a name

matches-some : (test : Option (List ℕ)) (name : Option (List ℕ)) → IsTrue (matches test name) → IsSome name
matches-some test None h = cc
matches-some test (Some name) h = refl

leads_to_name : (page : Tree) (steps : List Step) (at rest : List ℕ) → IsSome (name_at at page) → LeadsOn page at steps rest → IsSome (name_at (at ++ rest) page)
leads_to_name page [] at rest here h = subst (λ place. IsSome (name_at place page)) (sym (ap (λ r. at ++ r) h ∙ append-nil at)) here
leads_to_name page (step ∷ steps) at [] here h = absurd h
leads_to_name page (step ∷ steps) at (i ∷ rest) here h =
    subst (λ place. IsSome (name_at place page)) (append_assoc at (i ∷ []) rest) (leads_to_name page steps (at ++ i ∷ []) rest (matches-some step.test _ (and_parts _ _ h.0).0) h.1)

reached_named : (path : List Step) (page : Tree) (place : List ℕ) → Reaches path page place → IsSome (name_at place page)
reached_named [] page place h = absurd h
reached_named (step ∷ steps) page place h = leads_to_name page steps [] place (matches-some step.test _ (and_parts _ _ h.0).0) h.1

pub found_inside : (path : List Step) (page : Tree) (found : Found) (n : ℕ) → found ≡ One n → IsTarget path page (place_found page found) → n < nodes page
found_inside path page found n is target = named_inside page n (reached_named path page (place_numbered n page) (subst (λ f. IsTarget path page (place_found page f)) is target).0)
