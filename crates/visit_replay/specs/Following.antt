-- The outcomes of a list of visits, of which each follows the visit that opened it, its parent (this project's own
-- rule).
use Rattle.std.specs.Prelude.{ℕ, List, [], ◌∷◌, ◌++◌, Bool, true, false, nat_lt, ◌==◌, if◌then◌else◌, Option, None, map, filter, fold}
use Rattle.std.specs.List.{last_or}
use Rattle.std.specs.Option.{option_map_or}
use Rattle.client_log.specs.declared.visit.Visit.{Visit}
use Rattle.visit_replay.specs.Moved.{is_moved}
use Rattle.visit_replay.specs.Outcome.{outcome}
use Rattle.visit_replay.specs.RepairedSite.{RepairedSite}
use Rattle.visit_replay.specs.declared.outcome.ConflictKind.TheVariants.{Moved}
use Rattle.visit_replay.specs.declared.outcome.Outcome.{Outcome}
use Rattle.visit_replay.specs.declared.outcome.Outcome.TheVariants.{Untouched, Conflict}

-- a visit with its outcome
abbrev pub Replayed : Type 0
Replayed = Visit × Outcome

-- the last with that number
abbrev pub last_numbered : ℕ → List Replayed → Option Replayed
last_numbered number visits = last_or None (filter (λ one. one.0.number == number) visits)

-- the last before it with the number of its parent, where that is less than its own
abbrev pub parent_among : List Replayed → Visit → Option Replayed
parent_among before visit = if nat_lt visit.parent visit.number then last_numbered visit.parent before else None

-- whether the request that opened it goes elsewhere by its parent's outcome
abbrev pub is_elsewhere : Option (List (List ℕ)) → Visit → Option Replayed → Bool
is_elsewhere same visit parent = option_map_or (λ one. is_moved same one.0 one.1 visit.from) parent false

abbrev pub is_untouched : Outcome → Bool
is_untouched Untouched = true
is_untouched other = false

-- what the visit gives behind these, by what it gives by itself: a visit that is untouched stays so; any other is a
-- conflict at its load where its parent leads elsewhere now (K10)
abbrev pub outcome_behind : Option (List (List ℕ)) → List Replayed → Visit → Outcome → Outcome
outcome_behind same before visit own =
    if is_untouched own then Untouched else
    (if is_elsewhere same visit (parent_among before visit) then Conflict [] 0 Moved else own)

abbrev pub with_next : Option (List (List ℕ)) → List Replayed → Replayed → List Replayed
with_next same before one = before ++ (one.0, outcome_behind same before one.0 one.1) ∷ []

-- visits with their outcomes, from the same with what they give by themselves
abbrev pub behind_parents : Option (List (List ℕ)) → List Replayed → List Replayed
behind_parents same visits = fold (with_next same) [] visits

-- of these visits, each behind its parent
abbrev pub outcomes : RepairedSite → List Visit → List Outcome
outcomes site visits = map (λ one. one.1) (behind_parents site.same (map (λ visit. (visit, outcome site visit)) visits))
