-- What a visit gives by a law that names another.
use Rattle.std.proofs.Common.{◌≡◌, ℕ, List, Bool, Option, sym, ap, ◌∙◌}
use Rattle.page_tree.specs.Tree.{Tree}
use Rattle.client_log.specs.declared.visit.Visit.{Visit}
use Rattle.visit_replay.specs.Outcome.{outcome}
use Rattle.visit_replay.specs.RepairedSite.{site_by}
use Rattle.visit_replay.specs.declared.outcome.Outcome.{Outcome}

module _ {H : Type 0} (page_of : H → List ℕ → Option Tree) (signals : H → List ℕ → Tree → Tree → Bool) (hooks : H) (patch : List (List ℕ)) (visit : Visit) where
  pub by_names : (same other : Option (List (List ℕ))) (answer : Outcome) → same ≡ other → answer ≡ outcome (site_by page_of signals hooks patch other) visit
      → answer ≡ outcome (site_by page_of signals hooks patch same) visit
  by_names same other answer is told = told ∙ ap (λ names. outcome (site_by page_of signals hooks patch names) visit) (sym is)
