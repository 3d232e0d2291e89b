-- What all visits give, given back client by client.
use Rattle.std.proofs.Common.{◌≡◌, ℕ, ◌+◌, ◌<◌, List, [], ◌∷◌, ◌++◌, length, map, zip, take, drop, get_or, flat_map, Option, refl, sym, ap, ◌∙◌, arith, append_assoc}
use Rattle.std.proofs.Math.Seq.{take-append_seam}
use Rattle.std.proofs.lemmas.List.{map-append, length-map, drop_more}
use Rattle.std.specs.Borrow.{Bor}
use Rattle.client_log.specs.declared.visit.Visit.{Visit}
use Rattle.visit_replay.specs.Following.{Replayed, behind_parents, outcomes}
use Rattle.visit_replay.specs.Outcome.{outcome}
use Rattle.visit_replay.specs.RepairedSite.{RepairedSite}
use Rattle.visit_replay.specs.declared.outcome.Outcome.{Outcome}
use Rattle.page_tree.specs.Tree.{Tree}
use Rattle.replay_workers.specs.Work.{with_own_page, own_outcomes, own_page_outcomes, outcomes_with_own}
use Rattle.replay_workers.specs.declared.pool.KeptVisits.{KeptVisits}
use Rattle.replay_workers.specs.inside.Clients.{own_pages_of, visits_of_all, parts_of_all, followed, follow_all}
use Rattle.replay_workers.proofs.Placing.{zip_own}

pub drop_here : {A : Type 0} (xs : List A) (i : ℕ) (x : A) → i < length xs → x ≡ get_or xs i x → drop i xs ≡ x ∷ drop (i + 1) xs
drop_here xs i x below is = drop_more xs i x below ∙ ap (λ y. y ∷ drop (i + 1) xs) (sym is)

drop_front : {A : Type 0} (xs ys : List A) → drop (length xs) (xs ++ ys) ≡ ys
drop_front [] ys = refl
drop_front (x ∷ xs) ys = drop_front xs ys

-- one client more
pub one_cut : (others : List (Bor (List Visit))) (visits : Bor (List Visit)) (front rest next : List Outcome) (parts whole : List (List Replayed))
    → parts ++ parts_of_all (visits ∷ others) rest ≡ whole → length front ≡ length visits.now → front ++ next ≡ rest
    → (parts ++ zip visits.now front ∷ []) ++ parts_of_all others next ≡ whole
one_cut others visits front rest next parts whole before size split =
    let first : take (length visits.now) rest ≡ front = rw (← split, ← size) (take-append_seam front next) in
    let behind : drop (length visits.now) rest ≡ next = rw (← split, ← size) (drop_front front next) in
    append_assoc parts (zip visits.now front ∷ []) (parts_of_all others next)
    ∙ ap (λ tail. parts ++ tail) (ap (λ own. zip visits.now own ∷ parts_of_all others next) (sym first) ∙ ap (λ more. zip visits.now (take (length visits.now) rest) ∷ parts_of_all others more) (sym behind))
    ∙ before

-- what all clients' visits give by themselves, cut by client
pub followed_own : (site : RepairedSite) (clients : List (Bor (List Visit))) → follow_all site.same clients (own_outcomes site (visits_of_all clients)) ≡ map (λ visits. outcomes site visits.now) clients
followed_own site [] = refl
followed_own site (visits ∷ clients) =
    let own = map (outcome site) visits.now in
    let more = own_outcomes site (visits_of_all clients) in
    let size : length own ≡ length visits.now = length-map visits.now (outcome site) in
    let first : take (length visits.now) (own ++ more) ≡ own = rw (← size) (take-append_seam own more) in
    let behind : drop (length visits.now) (own ++ more) ≡ more = rw (← size) (drop_front own more) in
    rw (map-append (outcome site) visits.now (visits_of_all clients), first, behind)
    (ap (λ pairs. map (λ pair. pair.1) (behind_parents site.same pairs) ∷ follow_all site.same clients more) (zip_own (outcome site) visits.now) ∙ ap (λ rest. outcomes site visits.now ∷ rest) (followed_own site clients))

-- ---- the same where visits have pages of their own

module _ (site : RepairedSite) (own_page : List ℕ → ℕ → Option Tree) where
  abbrev on_own : List ℕ → Visit → Outcome
  on_own client visit = outcome (with_own_page site (own_page client visit.number)) visit

  pages_split : (client : List ℕ) (visits : List Visit) (pages : List (Option Tree)) (others : List Visit)
      → own_page_outcomes site (own_pages_of own_page client visits ++ pages) (visits ++ others) ≡ map (on_own client) visits ++ own_page_outcomes site pages others
  pages_split client [] pages others = refl
  pages_split client (visit ∷ visits) pages others = ap (λ rest. on_own client visit ∷ rest) (pages_split client visits pages others)

  abbrev all_pages : List KeptVisits → List (Option Tree)
  all_pages clients = flat_map (λ one. own_pages_of own_page one.client.now one.visits.now) clients

  -- the first client's visits, and those of the others
  one_followed : (client : List ℕ) (visits : List Visit) (kept : List (Bor (List Visit))) (pages : List (Option Tree)) (outs : List Outcome) (all : List (List Outcome))
      → outs ≡ own_page_outcomes site (own_pages_of own_page client visits ++ pages) (visits ++ visits_of_all kept)
      → follow_all site.same kept (own_page_outcomes site pages (visits_of_all kept)) ≡ all
      → followed site.same (zip visits (take (length visits) outs)) ∷ follow_all site.same kept (drop (length visits) outs) ≡ outcomes_with_own site own_page client visits ∷ all
  one_followed client visits kept pages outs all is others =
      let own = map (on_own client) visits in
      let more = own_page_outcomes site pages (visits_of_all kept) in
      let split : outs ≡ own ++ more = is ∙ pages_split client visits pages (visits_of_all kept) in
      let size : length own ≡ length visits = length-map visits (on_own client) in
      let first : take (length visits) (own ++ more) ≡ own = rw (← size) (take-append_seam own more) in
      let behind : drop (length visits) (own ++ more) ≡ more = rw (← size) (drop_front own more) in
      rw (split, first, behind, others) (ap (λ pairs. map (λ pair. pair.1) (behind_parents site.same pairs) ∷ all) (zip_own (on_own client) visits))

  pub followed_with_own : (clients : List KeptVisits) (kept : List (Bor (List Visit))) → map (λ visits. visits.now) kept ≡ map (λ one. one.visits.now) clients
      → follow_all site.same kept (own_page_outcomes site (all_pages clients) (visits_of_all kept)) ≡ map (λ one. outcomes_with_own site own_page one.client.now one.visits.now) clients
  followed_with_own [] [] is = refl
  followed_with_own [] (visits ∷ kept) is = absurd (omega (arith, ap length is))
  followed_with_own (one ∷ clients) [] is = absurd (omega (arith, ap length is))
  followed_with_own (one ∷ clients) (visits ∷ kept) is =
      let here : visits.now ≡ one.visits.now = cc in
      let rest : map (λ visits. visits.now) kept ≡ map (λ one. one.visits.now) clients = cc in
      rw here (one_followed one.client.now one.visits.now kept (all_pages clients) _ _ refl (followed_with_own clients kept rest))
