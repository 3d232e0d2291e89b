-- Which paths lead to a node, step by step.
use Rattle.std.proofs.Common.{◌≡◌, ℕ, suc, true, List, [], ◌∷◌, ◌++◌, length, take, IsSomeAnd, slice_get, refl, sym, ◌∙◌, ap, subst, arith, append-nil, append_assoc}
use Rattle.std.specs.Prelude.{◌↔◌}
use Rattle.std.proofs.lemmas.List.{length-append}
use Rattle.page_tree.specs.Tree.{Tree}
use Rattle.xpath_child.specs.Path.{Step}
use Rattle.xpath_child.specs.Reaches.{selects, LeadsOn}
use Rattle.site_hooks.specs.Walk.{LeadsDownTo}

-- the step of that level selects the child
abbrev pub SelectsAt : Tree → List Step → ℕ → List ℕ → ℕ → Type 0
SelectsAt page steps level at i = IsSomeAnd (slice_get steps level) (λ step. selects page step at i ≡ true)

-- steps lead one level further where the next of them selects the child
pub leads_last : (page : Tree) (steps : List Step) (at positions : List ℕ) (i : ℕ)
    → (LeadsOn page at (take (suc (length positions)) steps) (positions ++ i ∷ []) ↔ (LeadsOn page at (take (length positions) steps) positions × SelectsAt page steps (length positions) (at ++ positions) i))
leads_last page [] at [] i = (λ h. let clash : i ∷ [] ≡ [] = h in cc, λ h. absurd h.1)
leads_last page [] at (p ∷ ps) i = (λ h. let clash : p ∷ (ps ++ i ∷ []) ≡ [] = h in cc, λ h. absurd h.1)
leads_last page (step ∷ steps) at [] i = (
  λ h. (refl, subst (λ place. selects page step place i ≡ true) (sym (append-nil at)) h.0),
  λ h. (subst (λ place. selects page step place i ≡ true) (append-nil at) h.1, refl),
)
leads_last page (step ∷ steps) at (p ∷ ps) i =
    let deeper = leads_last page steps (at ++ p ∷ []) ps i in
    let there : (at ++ p ∷ []) ++ ps ≡ at ++ p ∷ ps = append_assoc at (p ∷ []) ps in (
      λ h. let both = deeper.0 h.1 in ((h.0, both.0), subst (λ place. SelectsAt page steps (length ps) place i) there both.1),
      λ h. (h.0.0, deeper.1 (h.0.1, subst (λ place. SelectsAt page steps (length ps) place i) (sym there) h.1)),
    )

-- the first steps of a path lead to a child where they lead to its parent and the next step selects the child
pub leads_to_child : (page : Tree) (at : List ℕ) (i : ℕ) (path : List Step) → (LeadsDownTo page (at ++ i ∷ []) path ↔ (LeadsDownTo page at path × SelectsAt page path (suc (length at)) at i))
leads_to_child page at i path = by_path path
  where
    many : length (at ++ i ∷ []) ≡ suc (length at)
    many = length-append at (i ∷ []) ∙ omega arith

    by_path : (path : List Step) → (LeadsDownTo page (at ++ i ∷ []) path ↔ (LeadsDownTo page at path × SelectsAt page path (suc (length at)) at i))
    by_path [] = (λ h. absurd h, λ h. absurd h.0)
    by_path (step ∷ steps) =
        let last = leads_last page steps [] at i in (
          λ h. let both = last.0 (subst (λ n. LeadsOn page [] (take n steps) (at ++ i ∷ [])) many h.1) in ((h.0, both.0), both.1),
          λ h. (h.0.0, subst (λ n. LeadsOn page [] (take n steps) (at ++ i ∷ [])) (sym many) (last.1 (h.0.1, h.1))),
        )

-- steps are as many as the levels that they lead down
pub leads_levels : (page : Tree) (at : List ℕ) (steps : List Step) (positions : List ℕ) → LeadsOn page at steps positions → length steps ≡ length positions
leads_levels page at [] positions leads = sym (ap length leads)
leads_levels page at (step ∷ steps) [] leads = absurd leads
leads_levels page at (step ∷ steps) (i ∷ rest) leads = ap suc (leads_levels page (at ++ i ∷ []) steps rest leads.1)
