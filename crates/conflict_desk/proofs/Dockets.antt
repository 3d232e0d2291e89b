-- Which dockets a desk takes.
use Rattle.std.proofs.Common.{◌≡◌, ◌↔◌, ℕ, ◌+◌, ◌-◌, ◌<◌, ◌≤◌, List, [], ◌∷◌, length, map, get_or, false, bytes_eq, option_map, ap, sym, refl, subst, ◌∙◌, arith}
use Rattle.std.specs.List.{AllByRecursion, IsDistinct, list_any}
use Rattle.std.proofs.lemmas.Bool.{cases_lt, or_parts, or_from}
use Rattle.std.proofs.lemmas.Map.Keys.{IsDistinct-head, IsDistinct-tail, IsDistinct-cons}
use Rattle.std.proofs.lemmas.Option.{slice_get-map, slice_get-get_or, get_or_from_slice_get}
use Rattle.conflict_desk.specs.Docket.{AreAscending}
use Rattle.conflict_desk.specs.Desk.{AreDockets}
use Rattle.conflict_desk.specs.declared.docket.Case.{Case}
use Rattle.conflict_desk.specs.declared.docket.Docket.{Docket}
use Rattle.conflict_desk.proofs.Places.{in_order}

-- ---- one docket more

none_from : (client : List ℕ) (dockets : List Docket) → list_any (λ docket. bytes_eq client docket.client) dockets ≡ false → AllByRecursion (λ other. bytes_eq client other ≡ false) (map (λ docket. docket.client) dockets)
none_from client [] none = tt
none_from client (docket ∷ dockets) none = let parts = or_parts _ _ none in (parts.0, none_from client dockets parts.1)

none_to : (client : List ℕ) (dockets : List Docket) → AllByRecursion (λ other. bytes_eq client other ≡ false) (map (λ docket. docket.client) dockets) → list_any (λ docket. bytes_eq client docket.client) dockets ≡ false
none_to client [] none = refl
none_to client (docket ∷ dockets) none = or_from _ _ none.0 (none_to client dockets none.1)

one_docket : (docket : Docket) (others : List Docket)
    → AreDockets (docket ∷ others) ↔ (AreAscending docket.cases × (list_any (λ other. bytes_eq docket.client other.client) others ≡ false) × AreDockets others)
one_docket docket others =
    let clients = map (λ (docket : Docket). docket.client) others in (
      (λ are. (are.visits.0, none_to docket.client others (IsDistinct-head bytes_eq docket.client clients are.clients), record { clients = IsDistinct-tail bytes_eq docket.client clients are.clients; visits = are.visits.1 })),
      (λ parts. record { clients = IsDistinct-cons bytes_eq docket.client clients (none_from docket.client others parts.1) parts.2.clients; visits = (parts.0, parts.2.visits) }),
    )

none_left : (dockets : List Docket) → length dockets ≡ 0 → AreDockets dockets
unfolding IsDistinct
none_left [] none = record { clients = tt; visits = tt }
none_left (docket ∷ dockets) none = absurd (omega (arith, none))

-- ---- a look at one docket after another

module _ (all rest : List Docket) (so_far : AreDockets rest ↔ AreDockets all) where
  pub to_the_end : length rest ≡ 0 → AreDockets all
  to_the_end none = so_far.0 (none_left rest none)

  module _ (docket : Docket) (others : List Docket) (is : rest ≡ docket ∷ others) where
    pub one_on : AreAscending docket.cases → list_any (λ other. bytes_eq docket.client other.client) others ≡ false → AreDockets others ↔ AreDockets all
    one_on up alone = (
      (λ are. so_far.0 (subst AreDockets (sym is) ((one_docket docket others).1 (up, alone, are)))),
      (λ are. ((one_docket docket others).0 (subst AreDockets is (so_far.1 are))).2),
    )

    pub not_twice : AreDockets all → list_any (λ other. bytes_eq docket.client other.client) others ≡ false
    not_twice are = ((one_docket docket others).0 (subst AreDockets is (so_far.1 are))).1

-- ---- one docket's order

-- the first so many visits ascend
abbrev pub AscendTo : List Case → ℕ → Type 0
AscendTo cases k = (i : ℕ) → i + 1 < k → get_or (map (λ case. case.visit) cases) i 0 < get_or (map (λ case. case.visit) cases) (i + 1) 0

visit_at : (cases : List Case) (k : ℕ) (d : Case) → k < length cases → get_or (map (λ case. case.visit) cases) k 0 ≡ (get_or cases k d).visit
visit_at cases k d within =
    get_or_from_slice_get (map (λ case. case.visit) cases) k (get_or cases k d).visit 0 (slice_get-map (λ (case : Case). case.visit) cases k ∙ ap (option_map (λ case. case.visit)) (slice_get-get_or cases k d within))

pub ascend_more : (cases : List Case) (k : ℕ) (d e : Case) → AscendTo cases k → 1 ≤ k → k < length cases → (get_or cases (k - 1) d).visit < (get_or cases k e).visit → AscendTo cases (k + 1)
ascend_more cases k d e so_far first within less i below = grind (arith, cases_lt (i + 1) k, so_far i, visit_at cases i d, visit_at cases (i + 1) e)

-- where a number isn't below the next, they don't ascend
pub falls_there : (cases : List Case) (k : ℕ) (d e : Case) → AreAscending cases → 1 ≤ k → k < length cases → (get_or cases k e).visit ≤ (get_or cases (k - 1) d).visit → ⊥
falls_there cases k d e up first within falls =
    omega (arith, falls, in_order cases up (k - 1) k (get_or cases (k - 1) d) (get_or cases k e) (slice_get-get_or cases (k - 1) d (omega (arith, first, within))) (slice_get-get_or cases k e within) (omega (arith, first)))
