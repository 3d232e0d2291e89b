-- What visits give by themselves that may have pages of their own.
use Rattle.std.proofs.Common.{◌≡◌, ℕ, zero, suc, ◌<◌, List, [], ◌∷◌, length, map, get_or, Option, Some, slice_get, refl, sym, ap, ◌∙◌}
use Rattle.std.proofs.lemmas.List.{length-map}
use Rattle.std.proofs.lemmas.Option.{slice_get-get_or}
use Rattle.std.specs.Borrow.{Bor}
use Rattle.page_tree.specs.Tree.{Tree}
use Rattle.client_log.specs.declared.visit.Visit.{Visit}
use Rattle.visit_replay.proofs.Places.{map_at}
use Rattle.visit_replay.specs.Outcome.{outcome}
use Rattle.visit_replay.specs.RepairedSite.{RepairedSite}
use Rattle.replay_workers.specs.Work.{with_own_page, own_outcomes, own_page_outcomes}
use Rattle.replay_workers.specs.inside.Clients.{page_at}

module _ (site : RepairedSite) where
  -- where none has one
  pub none_own : (visits : List Visit) → own_page_outcomes site [] visits ≡ own_outcomes site visits
  none_own [] = refl
  none_own (visit ∷ visits) = ap (λ rest. outcome site visit ∷ rest) (none_own visits)

  pub page_count : (pages : List (Option Tree)) (visits : List Visit) → length (own_page_outcomes site pages visits) ≡ length visits
  page_count pages [] = refl
  page_count [] (visit ∷ visits) = ap suc (page_count [] visits)
  page_count (page ∷ pages) (visit ∷ visits) = ap suc (page_count pages visits)

  pub page_outcome_there : (pages : List (Option Tree)) (visits : List Visit) (n : ℕ) (visit : Visit) → slice_get visits n ≡ Some visit
      → slice_get (own_page_outcomes site pages visits) n ≡ Some (outcome (with_own_page site (page_at pages n)) visit)
  page_outcome_there pages [] n visit at = cc
  page_outcome_there [] (v ∷ visits) zero visit at = let same : v ≡ visit = cc in rw same refl
  page_outcome_there [] (v ∷ visits) (suc n) visit at = page_outcome_there [] visits n visit at
  page_outcome_there (page ∷ pages) (v ∷ visits) zero visit at = let same : v ≡ visit = cc in rw same refl
  page_outcome_there (page ∷ pages) (v ∷ visits) (suc n) visit at = page_outcome_there pages visits n visit at

  pub page_count_now : (pages : List (Option Tree)) (visits : List (Bor Visit)) → length (own_page_outcomes site pages (map (λ visit. visit.now) visits)) ≡ length visits
  page_count_now pages visits = page_count pages (map (λ visit. visit.now) visits) ∙ length-map visits (λ (visit : Bor Visit). visit.now)

  pub page_outcome_at : (pages : List (Option Tree)) (visits : List (Bor Visit)) (n : ℕ) (visit : Bor Visit) → n < length visits → visit ≡ get_or visits n visit
      → slice_get (own_page_outcomes site pages (map (λ visit. visit.now) visits)) n ≡ Some (outcome (with_own_page site (page_at pages n)) visit.now)
  page_outcome_at pages visits n visit below is =
      page_outcome_there pages (map (λ visit. visit.now) visits) n visit.now
      (map_at (λ visit. visit.now) visits n visit (slice_get-get_or visits n visit below ∙ ap (λ v. Some v) (sym is)))
