-- The visits that a cancel takes along: this project's own rule.
use Rattle.std.specs.Prelude.{◌≡◌, ℕ, suc, List, map, filter, slice_get, Some, Bool, not, ◌&&◌, ◌||◌, ◌==◌}
use Rattle.std.specs.List.{list_any}
use Rattle.conflict_desk.specs.Book.{Book, chain, is_cancelled, with_decision}
use Rattle.conflict_desk.specs.declared.docket.Case.{Case}
use Rattle.conflict_desk.specs.declared.decided.Choice.TheVariants.{Cancel}

-- it is that visit, or has it on its chain of parents
unfoldable pub goes_with : List Case → ℕ → Case → Bool
goes_with cases visit case = list_any (λ above. visit == above.visit) (chain cases (suc case.visit) case)

-- it has it there, and isn't that visit
abbrev pub is_below_visit : List Case → ℕ → Case → Bool
is_below_visit cases visit case = not (case.visit == visit) && goes_with cases visit case

-- the cases at these places are those that pass, in their order
abbrev pub AreThePassing : (Case → Bool) → List Case → List ℕ → Type 0
AreThePassing passes cases places = map (slice_get cases) places ≡ map Some (filter passes cases)

-- Behind a cancel of that visit just those that go with it stand cancelled, beside those that did.
abbrev pub CancelTakesAlong : Book → ℕ → Type 0
CancelTakesAlong book visit = (case : Case) → is_cancelled (with_decision visit Cancel book) case
    ≡ (is_cancelled book case || goes_with book.cases visit case)
