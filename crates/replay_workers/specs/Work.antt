-- What one worker makes of the numbers that it draws, and all workers together.
use Rattle.std.specs.Prelude.{ℕ, ◌≡◌, ◌≤◌, List, [], ◌∷◌, ◌++◌, map, true, All, IfOk, Option, Some, slice_get}
use Rattle.std.specs.Option.{option_or}
use Rattle.page_tree.specs.Tree.{Tree}
use Rattle.client_log.specs.declared.visit.Visit.{Visit}
use Rattle.visit_replay.specs.Following.{behind_parents}
use Rattle.visit_replay.specs.Outcome.{outcome}
use Rattle.visit_replay.specs.RepairedSite.{RepairedSite}
use Rattle.visit_replay.specs.declared.outcome.Outcome.{Outcome}
use Rattle.replay_workers.specs.Draws.{Pool, Draws, IsSeatOf, is_spent}
use Rattle.replay_workers.specs.declared.share.Done.{Done}
use Rattle.replay_workers.specs.declared.share.Share.{Share}

-- what each visit gives by itself
abbrev pub own_outcomes : RepairedSite → List Visit → List Outcome
own_outcomes site visits = map (outcome site) visits

-- the site for a visit that may have a page of its own: that one stands at each address
abbrev pub with_own_page : RepairedSite → Option Tree → RepairedSite
with_own_page site own = record site { page_of = λ address. option_or own (site.page_of address) }

-- the same where each has such a page of its own, or none, and none where these are fewer
abbrev pub own_page_outcomes : RepairedSite → List (Option Tree) → List Visit → List Outcome
own_page_outcomes site pages [] = []
own_page_outcomes site [] (visit ∷ visits) = outcome site visit ∷ own_page_outcomes site [] visits
own_page_outcomes site (page ∷ pages) (visit ∷ visits) =
    outcome (with_own_page site page) visit ∷ own_page_outcomes site pages visits

-- what a client's visits give on a site that has pages of single visits too, each behind its parent
abbrev pub outcomes_with_own : RepairedSite → (List ℕ → ℕ → Option Tree) → List ℕ → List Visit → List Outcome
outcomes_with_own site own_page client visits =
    let own : Visit → Outcome = λ visit. outcome (with_own_page site (own_page client visit.number)) visit in
    map (λ one. one.1) (behind_parents site.same (map (λ visit. (visit, own visit)) visits))

abbrev pub done_numbers : List Done → List ℕ
done_numbers done = map (λ one. one.number) done

-- each of these is the outcome at its number
abbrev pub AreOf : List Outcome → List Done → Type 0
AreOf own done = All (λ one. slice_get own one.number ≡ Some one.outcome) done

-- The seat drew the numbers of these, and then one at or past the count.
pub record HasDrawn (own : List Outcome) (old new : Draws) (done : List Done) : Type 0 where
  pub last : ℕ
  pub past : old.count ≤ last
  pub drawn : new.drawn ≡ old.drawn ++ (done_numbers done ++ last ∷ [])
  pub outcomes : AreOf own done

-- The share of a worker with that seat: it drew until it was spent, and where memory sufficed, it has the outcomes at
-- its numbers below the count.
pub record IsShare (own : List Outcome) (pool : Pool) (seat : Draws) (share : Share) : Type 0 where
  pub of : IsSeatOf pool share.seat
  pub spent : is_spent share.seat ≡ true
  pub done : IfOk share.done (λ done. HasDrawn own seat share.seat done.items)
