-- A docket has a case for each visit of a log, in their order.
use Rattle.std.proofs.Common.{◌≡◌, ℕ, zero, suc, ◌+◌, ◌<◌, List, [], ◌∷◌, length, get_or, set, map, take, bytes_eq, Option, None, Result, Ok, Err, IfOk, refl, sym, ap, ap₂, subst, ◌∙◌, arith}
use mathlib.Core.Path.{fun_ext}
use Rattle.std.proofs.lemmas.List.{length-take, get_or-take}
use Rattle.std.proofs.lemmas.Simd.{map-map}
use Rattle.std.specs.Borrow.{Bor}
use Rattle.std.specs.Prelude.{Vec}
use Rattle.std.specs.declared.alloc.Global.{Global}
use Rattle.std.specs.List.{zip, AllByRecursion, IsDistinct}
use Rattle.std.specs.Option.{option_or}
use Rattle.std.specs.List.Sorted.{IsStrictlyIncreasing}
use Rattle.std.specs.Map.{keys_of}
use Rattle.page_tree.specs.Tree.{Tree}
use Rattle.client_log.specs.declared.visit.Visit.{Visit}
use Rattle.visit_replay.specs.Following.{outcomes}
use Rattle.visit_replay.specs.RepairedSite.{RepairedSite}
use Rattle.visit_replay.specs.declared.outcome.Outcome.{Outcome}
use Rattle.replay_workers.specs.Work.{outcomes_with_own}
use Rattle.replay_workers.specs.declared.pool.KeptVisits.{KeptVisits}
use Rattle.conflict_desk.specs.Desk.{AreDockets}
use Rattle.conflict_desk.specs.Docket.{AreAscending}
use Rattle.conflict_desk.specs.declared.docket.Docket.{Docket}
use Rattle.lanes_in_turn.specs.declared.gathered.LaneResult.{LaneResult}
use Rattle.warp_run.specs.Repair.{visit_page, as_case, docket_with, docket_for}
use Rattle.warp_run.specs.inside.{client_visits, lane_visits}
use Rattle.warp_run.specs.inside.Telling.{as_pairs, pairs_made, case_made, docket_told}
use Rattle.warp_run.specs.declared.telling.ToldVisit.{ToldVisit}

-- ---- the cases of a docket ascend, as the visits do

cases_numbers : (page_for : Visit → Option Tree) (same : Option (List (List ℕ))) (visits : List Visit) (outs : List Outcome)
    → map (λ case. case.visit) (map (as_case page_for same) (zip visits outs)) ≡ take (length outs) (map (λ visit. visit.number) visits)
cases_numbers page_for same [] [] = refl
cases_numbers page_for same [] (out ∷ outs) = refl
cases_numbers page_for same (visit ∷ visits) [] = refl
cases_numbers page_for same (visit ∷ visits) (out ∷ outs) = ap (λ numbers. visit.number ∷ numbers) (cases_numbers page_for same visits outs)

increasing_front : (n : ℕ) (xs : List ℕ) → IsStrictlyIncreasing xs → IsStrictlyIncreasing (take n xs)
increasing_front n xs increasing k below =
    let size = length-take n xs in
    let here = get_or-take n xs k 0 (omega (arith, size, below)) in
    let next = get_or-take n xs (k + 1) 0 (omega (arith, size, below)) in
    let less = increasing k (omega (arith, size, below)) in
    omega (arith, here, next, less)

pub cases_ascend : (page_for : Visit → Option Tree) (same : Option (List (List ℕ))) (visits : List Visit) (outs : List Outcome)
    → IsStrictlyIncreasing (map (λ visit. visit.number) visits) → AreAscending (map (as_case page_for same) (zip visits outs))
cases_ascend page_for same visits outs increasing =
    subst IsStrictlyIncreasing (sym (cases_numbers page_for same visits outs)) (increasing_front (length outs) (map (λ visit. visit.number) visits) increasing)

-- ---- what is told of each client's visits makes the defined dockets

module _ (page_of : List ℕ → Option Tree) (own_page : List ℕ → ℕ → Option Tree) (same : Option (List (List ℕ))) where
  abbrev pub by_outcomes : {R : Type 0} → (List ℕ × LaneResult R) × Vec Outcome Global → Docket
  by_outcomes one = docket_with (visit_page page_of own_page one.0.0) same one.0.0 one.0.1.log.log one.1.items

  made_so : (client : List ℕ) (visits : List Visit) (outs : List Outcome)
      → map (case_made page_of same) (zip (map (λ visit. (visit, own_page client visit.number)) visits) outs) ≡ map (as_case (visit_page page_of own_page client) same) (zip visits outs)
  made_so client [] outs = refl
  made_so client (visit ∷ visits) [] = refl
  made_so client (visit ∷ visits) (out ∷ outs) = ap (λ cases. as_case (visit_page page_of own_page client) same (visit, out) ∷ cases) (made_so client visits outs)

  -- what is told of each client's visits makes the dockets by their outcomes
  pub told_are : {R : Type 0} (entries : List (List ℕ × LaneResult R)) (kept : List KeptVisits) (outs : List (Vec Outcome Global)) (told : List (Vec ToldVisit Global))
      → map client_visits kept ≡ map lane_visits entries → map as_pairs told ≡ map (pairs_made own_page) (zip kept outs)
      → map (docket_told page_of same) (zip entries told) ≡ map by_outcomes (zip entries outs)
  told_are [] kept outs told are is = refl
  told_are (entry ∷ entries) [] outs told are is = absurd (omega (arith, ap length are))
  told_are (entry ∷ entries) (one ∷ kept) [] [] are is = refl
  told_are (entry ∷ entries) (one ∷ kept) [] (own ∷ told) are is = absurd (omega (arith, ap length is))
  told_are (entry ∷ entries) (one ∷ kept) (out ∷ outs) [] are is = absurd (omega (arith, ap length is))
  told_are (entry ∷ entries) (one ∷ kept) (out ∷ outs) (own ∷ told) are is =
      let kept_so : client_visits one ≡ lane_visits entry = cc in
      let client : one.client.now ≡ entry.0 = ap (λ pair. pair.0) kept_so in
      let visits : one.visits.now ≡ entry.1.log.log.visits = ap (λ pair. pair.1) kept_so in
      let others : map client_visits kept ≡ map lane_visits entries = cc in
      let here : as_pairs own ≡ pairs_made own_page (one, out) = cc in
      let rest : map as_pairs told ≡ map (pairs_made own_page) (zip kept outs) = cc in
      let cases = ap (map (case_made page_of same)) here ∙ made_so one.client.now one.visits.now out.items
      ∙ ap₂ (λ (name : List ℕ) (kept : List Visit). map (as_case (visit_page page_of own_page name) same) (zip kept out.items)) client visits in
      rw (cases, told_are entries kept outs told others rest) refl

  -- their visits ascend
  pub dockets_ascend : {R : Type 0} (entries : List (List ℕ × LaneResult R)) (kept : List KeptVisits) (outs : List (Vec Outcome Global))
      → map client_visits kept ≡ map lane_visits entries → AllByRecursion (λ one. IsStrictlyIncreasing (map (λ visit. visit.number) one.visits.now)) kept
      → AllByRecursion (λ docket. AreAscending docket.cases) (map by_outcomes (zip entries outs))
  dockets_ascend [] kept outs are ascend = tt
  dockets_ascend (entry ∷ entries) [] outs are ascend = absurd (omega (arith, ap length are))
  dockets_ascend (entry ∷ entries) (one ∷ kept) [] are ascend = tt
  dockets_ascend (entry ∷ entries) (one ∷ kept) (out ∷ outs) are ascend =
      let kept_so : client_visits one ≡ lane_visits entry = cc in
      let visits : one.visits.now ≡ entry.1.log.log.visits = ap (λ pair. pair.1) kept_so in
      let others : map client_visits kept ≡ map lane_visits entries = cc in
      let increasing = subst (λ visits. IsStrictlyIncreasing (map (λ visit. visit.number) visits)) visits ascend.0 in
      (cases_ascend (visit_page page_of own_page entry.0) same entry.1.log.log.visits out.items increasing, dockets_ascend entries kept outs others ascend.1)

  -- the docket of an entry, by what the client's visits give
  abbrev pub docket_from : {R : Type 0} → (List ℕ × LaneResult R → List Outcome) → List ℕ × LaneResult R → Docket
  docket_from of entry = docket_with (visit_page page_of own_page entry.0) same entry.0 entry.1.log.log (of entry)

  pub dockets_by : {R : Type 0} (of : List ℕ × LaneResult R → List Outcome) (entries : List (List ℕ × LaneResult R)) (outs : List (Vec Outcome Global))
      → map (λ own. own.items) outs ≡ map of entries → map by_outcomes (zip entries outs) ≡ map (docket_from of) entries
  dockets_by of [] outs is = refl
  dockets_by of (entry ∷ entries) [] is = absurd (omega (arith, ap length is))
  dockets_by of (entry ∷ entries) (out ∷ outs) is =
      let here : out.items ≡ of entry = cc in
      let rest : map (λ own. own.items) outs ≡ map of entries = cc in
      rw (here, dockets_by of entries outs rest) refl

  -- each docket is of the client of its lane
  pub dockets_clients : {R : Type 0} (of : List ℕ × LaneResult R → List Outcome) (entries : List (List ℕ × LaneResult R))
      → map (λ docket. docket.client) (map (docket_from of) entries) ≡ keys_of entries
  dockets_clients of [] = refl
  dockets_clients of (entry ∷ entries) = ap (λ clients. entry.0 ∷ clients) (dockets_clients of entries)

-- an item by another that is alike
pub set_alike : {A B : Type 0} (f : A → B) (xs : List A) (k : ℕ) (x d : A) → k < length xs → f x ≡ f (get_or xs k d) → map f (set xs k x) ≡ map f xs
set_alike f [] k x d below alike = refl
set_alike f (y ∷ xs) zero x d below alike = ap (λ z. z ∷ map f xs) alike
set_alike f (y ∷ xs) (suc k) x d below alike = ap (λ zs. f y ∷ zs) (set_alike f xs k x d (omega (arith, below)) alike)

-- where no visit has a page of its own, each has that of its address
pub no_own_page : (page_of : List ℕ → Option Tree) (own_page : List ℕ → ℕ → Option Tree) (client : List ℕ)
    → ((other : List ℕ) (number : ℕ) → own_page other number ≡ None) → visit_page page_of own_page client ≡ (λ visit. page_of visit.address)
no_own_page page_of own_page client none = fun_ext (λ visit. ap (λ own. option_or own (page_of visit.address)) (none client visit.number))

-- what a client's visits give without such pages
abbrev pub kept_of : {R : Type 0} → RepairedSite → List ℕ × LaneResult R → List Outcome
kept_of site entry = outcomes site entry.1.log.log.visits

pub with_none : {R : Type 0} (site : RepairedSite) (own_page : List ℕ → ℕ → Option Tree) (entries : List (List ℕ × LaneResult R))
    → ((other : List ℕ) (number : ℕ) → own_page other number ≡ None)
    → map (docket_from site.page_of own_page site.same (kept_of site)) entries ≡ map (docket_for site) entries
with_none site own_page [] none = refl
with_none site own_page (entry ∷ entries) none =
    ap₂ (λ (docket : Docket) (dockets : List Docket). docket ∷ dockets)
    (ap (λ page_for. docket_with page_for site.same entry.0 entry.1.log.log (kept_of site entry)) (no_own_page site.page_of own_page entry.0 none))
    (with_none site own_page entries none)

pub clients_for : {R : Type 0} (site : RepairedSite) (entries : List (List ℕ × LaneResult R))
    → map (λ docket. docket.client) (map (docket_for site) entries) ≡ keys_of entries
clients_for site [] = refl
clients_for site (entry ∷ entries) = ap (λ clients. entry.0 ∷ clients) (clients_for site entries)

-- the outcomes of what is listed are those of what the logs keep
pub kept_outcomes : {R : Type 0} (site : RepairedSite) (lists : List (Bor (List Visit))) (entries : List (List ℕ × LaneResult R))
    → map (λ visits. visits.now) lists ≡ map (λ entry. entry.1.log.log.visits) entries
    → map (λ visits. outcomes site visits.now) lists ≡ map (λ entry. outcomes site entry.1.log.log.visits) entries
kept_outcomes site lists entries is =
    sym (map-map (outcomes site) (λ (visits : Bor (List Visit)). visits.now) lists) ∙ ap (map (outcomes site)) is
    ∙ map-map (outcomes site) (λ entry. entry.1.log.log.visits) entries

-- the same where visits have pages of their own
pub own_outcomes_are : {R : Type 0} (site : RepairedSite) (own : List ℕ → ℕ → Option Tree) (kept : List KeptVisits) (entries : List (List ℕ × LaneResult R))
    → map client_visits kept ≡ map lane_visits entries
    → map (λ one. outcomes_with_own site own one.client.now one.visits.now) kept ≡ map (λ entry. outcomes_with_own site own entry.0 entry.1.log.log.visits) entries
own_outcomes_are site own kept entries is =
    let gives : List ℕ × List Visit → List Outcome = λ one. outcomes_with_own site own one.0 one.1 in
    sym (map-map gives client_visits kept) ∙ ap (map gives) is
    ∙ map-map gives lane_visits entries

-- what is defined of these clients is for a desk, where each is of its own
pub for_desk : {V E : Type 0} (r : Result V E) (items : V → List Docket) (dockets : List Docket) → IfOk r (λ all. items all ≡ dockets)
    → IfOk r (λ all. AllByRecursion (λ docket. AreAscending docket.cases) (items all)) → IfOk r (λ _. IsDistinct bytes_eq (map (λ docket. docket.client) dockets))
    → IfOk r (λ all. AreDockets (items all))
for_desk (Err e) items dockets are ascend distinct = tt
for_desk (Ok all) items dockets are ascend distinct =
    record { clients = subst (λ them. IsDistinct bytes_eq (map (λ docket. docket.client) them)) (sym are) distinct; visits = ascend }
